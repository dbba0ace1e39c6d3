-- Each return of `go_off` stands where a test of `going_off` led to it, in the same order.
use Rattle.judgements.specs.Judge.{going_off}
use Rattle.rules.specs.Tests.{contraries}
use Rattle.power.proofs.go_off.Goals as goal

pub returns-then-v-ne-NORMAL : goal.returns-then-v-ne-NORMAL
unfolding going_off
returns-then-v-ne-NORMAL c = search contraries depth 20

pub returns : goal.returns
unfolding going_off
returns c = search contraries depth 20
