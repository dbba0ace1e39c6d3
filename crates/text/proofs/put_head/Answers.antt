-- `text::put_head` meets its promise: three bytes are put one behind the other.
use borrow.Author.Rules.{rules}
use Rattle.text.specs.Text.{head_put}
use Rattle.text.proofs.put_head.Goals as goal

pub returns : goal.returns
returns c = search (head_put, rules)
