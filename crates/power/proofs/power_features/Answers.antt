-- Each return of `power_features` stands where a test of `power_featuring` led to it, in the same order.
use Rattle.judgements.specs.Judge.{power_featuring}
use Rattle.rules.specs.Tests.{contraries}
use Rattle.power.proofs.power_features.Goals as goal

pub returns-then-v-ne-NORMAL : goal.returns-then-v-ne-NORMAL
unfolding power_featuring
returns-then-v-ne-NORMAL c = search contraries depth 20

pub returns : goal.returns
unfolding power_featuring
returns c = search contraries depth 20
