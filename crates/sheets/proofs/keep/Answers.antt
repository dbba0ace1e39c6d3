-- The line goes where the last one ended.
use borrow.Author.Rules.{rules}
use Rattle.sheets.specs.Sheet.{keeps}
use Rattle.sheets.proofs.keep.Goals as goal

pub returns : goal.returns
returns c = search (keeps, rules)
