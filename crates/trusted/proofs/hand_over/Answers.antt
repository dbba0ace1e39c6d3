-- Each return of `hand_over` stands where a test of `handing` led to it, in the same order.
use Rattle.judgements.specs.Judge.{handing}
use Rattle.rules.specs.Tests.{contraries}
use Rattle.trusted.proofs.hand_over.Goals as goal

pub returns-then-v-ne-NORMAL : goal.returns-then-v-ne-NORMAL
unfolding handing
returns-then-v-ne-NORMAL c = search contraries depth 20

pub returns : goal.returns
unfolding handing
returns c = search contraries depth 20
