-- A core that was pending has come by the promises of the tables; any other leaves them as they were.
use Rattle.calls.specs.Laws.{arrivals}
use Rattle.calls.proofs.arrive.Goals as goal

pub returns-then-not-a : goal.returns-then-not-a
returns-then-not-a c = search arrivals

pub returns : goal.returns
returns c = search arrivals
