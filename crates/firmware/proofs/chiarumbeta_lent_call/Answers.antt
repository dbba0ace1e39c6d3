-- A refused frame has its status told, and an accepted call is told by the tables that it left.
use Rattle.firmware.specs.Laws.{callings}
use Rattle.firmware.proofs.chiarumbeta_lent_call.Goals as goal

pub returns-in-Err : goal.returns-in-Err
returns-in-Err c = search callings

pub returns-in-Ok : goal.returns-in-Ok
returns-in-Ok c = search callings
