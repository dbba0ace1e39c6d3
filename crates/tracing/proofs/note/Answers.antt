-- Pages are marked, and where there are none nothing changes.
use Rattle.tracing.specs.Laws.{notes}
use Rattle.tracing.proofs.note.Goals as goal

pub returns-in-Some : goal.returns-in-Some
returns-in-Some c = search notes

pub returns-in-None : goal.returns-in-None
returns-in-None c = search notes
