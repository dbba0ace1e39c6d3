-- Each return of `power_version` stands where a test of `versioning` led to it, in the same order.
use Rattle.judgements.specs.Judge.{versioning}
use Rattle.rules.specs.Tests.{contraries}
use Rattle.power.proofs.power_version.Goals as goal

pub returns-then-v-ne-NORMAL : goal.returns-then-v-ne-NORMAL
unfolding versioning
returns-then-v-ne-NORMAL c = search contraries depth 20

pub returns : goal.returns
unfolding versioning
returns c = search contraries depth 20
