-- Each return of `good_start` stands where a test of `good_start` led to it, in the same order.
use Rattle.judgements.specs.Judge.{good_start}
use Rattle.power.specs.Laws.{places}
use Rattle.power.proofs.good_start.Goals as goal

pub returns-then-address-ne0 : goal.returns-then-address-ne0
unfolding good_start
returns-then-address-ne0 c = search places depth 20

pub returns-in_default : goal.returns-in_default
unfolding good_start
returns-in_default c = search places depth 20

pub returns : goal.returns
unfolding good_start
returns c = search places depth 20
