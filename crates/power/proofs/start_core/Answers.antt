-- Each return of `start_core` stands where a test of `starting` led to it, in the same order.
use Rattle.judgements.specs.Judge.{starting}
use Rattle.rules.specs.Tests.{contraries}
use Rattle.power.proofs.start_core.Goals as goal

pub returns-then-v-ne-NORMAL : goal.returns-then-v-ne-NORMAL
unfolding starting
returns-then-v-ne-NORMAL c = search contraries depth 20

pub returns-then-v-core : goal.returns-then-v-core
unfolding starting
returns-then-v-core c = search contraries depth 20

pub returns-then-not-good_start : goal.returns-then-not-good_start
unfolding starting
returns-then-not-good_start c = search contraries depth 20

pub returns-then-on_core : goal.returns-then-on_core
unfolding starting
returns-then-on_core c = search contraries depth 20

pub returns-then-pending_core : goal.returns-then-pending_core
unfolding starting
returns-then-pending_core c = search contraries depth 20

pub returns : goal.returns
unfolding starting
returns c = search contraries depth 20
