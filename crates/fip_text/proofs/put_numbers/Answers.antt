-- `put_numbers` meets its promise, since each number is put behind the one before it.
use Rattle.fip_text.specs.Line.{numbers_put}
use borrow.Author.Rules.{rules}
use Rattle.fip_text.proofs.put_numbers.Goals as goal

pub returns : goal.returns
returns c = (search (numbers_put, rules), search rules)
