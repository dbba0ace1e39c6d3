-- `mark` meets its promise, since a page's mark is a digit of the number that it stands in, and one past the end is 0.
use Rattle.conversions.specs.Laws.{mark_read, mark_missing}
use borrow.Author.Rules.{rules}
use Rattle.conversions.proofs.numbers.mark.Goals as goal

pub returns-in-Some : goal.returns-in-Some
returns-in-Some c = mark_read _ _ _ _ (search rules) c.read.ensures

pub returns-in-None : goal.returns-in-None
returns-in-None c = search (mark_missing, rules)
