-- In each arm of `moved` the verdict is known, and with it what `moving` makes of it.
use Rattle.page_calls.specs.Laws.{verdicts}
use Rattle.page_calls.proofs.moved.Goals as goal

pub returns-in-Ok : goal.returns-in-Ok
returns-in-Ok c = search verdicts

pub returns-in-Err : goal.returns-in-Err
returns-in-Err c = search verdicts
