-- In each arm it is known what came of the call.
use Rattle.outcomes.specs.Laws.{tries}
use Rattle.outcomes.proofs.of_call.Goals as goal

pub returns-in-Err : goal.returns-in-Err
returns-in-Err c = search tries

pub returns-in-Ok : goal.returns-in-Ok
returns-in-Ok c = search tries
