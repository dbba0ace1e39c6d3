-- Each status is a case of the definition.
use borrow.Author.Rules.{rules}
use Rattle.sheets.specs.Sheet.{notes}
use Rattle.sheets.proofs.note.Goals as goal

pub returns-then-status-eq0 : goal.returns-then-status-eq0
returns-then-status-eq0 c = search (notes, rules)

pub returns : goal.returns
returns c = search (notes, rules)
