-- The notice goes where the last one ended.
use borrow.Author.Rules.{rules}
use Rattle.sheets.specs.Sheet.{drops}
use Rattle.sheets.proofs.leave.Goals as goal

pub returns : goal.returns
returns c = search (drops, rules)
