-- `put_right` meets its promise: the digits stand behind the blanks.
use borrow.Author.Rules.{rules}
use Rattle.phrases.specs.Text.{right_put}
use Rattle.phrases.proofs.put_right.Goals as goal

pub returns : goal.returns
returns c = search (right_put, rules)
