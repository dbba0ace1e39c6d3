-- A refusal is told, and after a call the core is shown by the tables that it left.
use Rattle.calling.specs.Laws.{callings}
use Rattle.calling.proofs.make_call.Goals as goal

pub returns-in-Err : goal.returns-in-Err
returns-in-Err c = search callings

pub returns-in-Ok : goal.returns-in-Ok
returns-in-Ok c = search callings
