-- Each return of `tell_state` stands where a test of `telling_state` led to it, in the same order.
use Rattle.judgements.specs.Judge.{telling_state}
use Rattle.rules.specs.Tests.{contraries}
use Rattle.power.proofs.tell_state.Goals as goal

pub returns-then-v-ne-NORMAL : goal.returns-then-v-ne-NORMAL
unfolding telling_state
returns-then-v-ne-NORMAL c = search contraries depth 20

pub returns-then-v-core : goal.returns-then-v-core
unfolding telling_state
returns-then-v-core c = search contraries depth 20

pub returns-then-level-ne0 : goal.returns-then-level-ne0
unfolding telling_state
returns-then-level-ne0 c = search contraries depth 20

pub returns : goal.returns
unfolding telling_state
returns c = search contraries depth 20
