-- The parts of a call, each by its promise, make the step of the whole state.
use Rattle.calls.proofs.Laws.{steps}
use Rattle.calls.proofs.call.Goals as goal

pub returns-then-not-may_call : goal.returns-then-not-may_call
returns-then-not-may_call c = search steps

pub returns : goal.returns
returns c = search steps
