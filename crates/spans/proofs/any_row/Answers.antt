-- The one table has the row, or else the other.
use Rattle.spans.specs.Laws.{rows}
use Rattle.spans.proofs.any_row.Goals as goal

pub returns-in_default : goal.returns-in_default
returns-in_default c = search rows

pub returns : goal.returns
returns c = search rows
