-- Each return of `trusted_call` stands where the world and the key led to it: who may neither hand over nor finish is refused, as each of the two refuses it.
use Rattle.judgements.specs.Judge.{handing, finishing, trusted}
use Rattle.rules.specs.Tests.{contraries}
use Rattle.trusted.proofs.trusted_call.Goals as goal

pub returns-then-key-eq-SECURE_FINISH : goal.returns-then-key-eq-SECURE_FINISH
unfolding trusted finishing
returns-then-key-eq-SECURE_FINISH c = search contraries depth 20

pub returns-then-v-eq-NORMAL : goal.returns-then-v-eq-NORMAL
unfolding trusted
returns-then-v-eq-NORMAL c = search contraries depth 20

pub returns-then-key-eq-SECURE_FINISH-2 : goal.returns-then-key-eq-SECURE_FINISH-2
unfolding trusted
returns-then-key-eq-SECURE_FINISH-2 c = search contraries depth 20

pub returns : goal.returns
unfolding trusted handing
returns c = search contraries depth 20
