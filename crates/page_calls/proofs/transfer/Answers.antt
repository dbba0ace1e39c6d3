-- A world that may call is told what the verdict makes of the call, whichever way the pages go.
use Rattle.judgements.specs.Judge.{transferring}
use Rattle.page_calls.specs.Laws.{moves}
use Rattle.page_calls.proofs.transfer.Goals as goal

pub returns-then-not-may_transfer : goal.returns-then-not-may_transfer
unfolding transferring
returns-then-not-may_transfer c = search moves depth 20

pub returns : goal.returns
unfolding transferring
returns c = let h = rw c.read_args-a.ensures at c.judge.ensures in search (moves, h) depth 20
