-- The core's power is asked for first.
use Rattle.arriving.specs.Arriving.{asks_pending}
use Rattle.arriving.proofs.judge_arrival.Goals as goal

pub returns : goal.returns
returns c = search asks_pending
