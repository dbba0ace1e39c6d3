-- Two numbers are put one behind the other.
use borrow.Author.Rules.{rules}
use Rattle.sheets.specs.Sheet.{number_put}
use Rattle.sheets.proofs.put_number.Goals as goal

pub returns : goal.returns
returns c = search (number_put, rules)
