-- Each branch is a case of the definition.
use borrow.Author.Rules.{rules}
use Rattle.sheets.specs.Sheet.{counts}
use Rattle.sheets.proofs.count_line.Goals as goal

pub returns-then-n-lt-MOST : goal.returns-then-n-lt-MOST
returns-then-n-lt-MOST c = search (counts, rules)

pub returns : goal.returns
returns c = search (counts, rules)
