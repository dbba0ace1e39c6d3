-- Each return of `finish` stands where a test of `finishing` led to it, in the same order.
use Rattle.judgements.specs.Judge.{finishing}
use Rattle.rules.specs.Tests.{contraries}
use Rattle.trusted.proofs.finish.Goals as goal

pub returns-then-v-from : goal.returns-then-v-from
unfolding finishing
returns-then-v-from c = search contraries depth 20

pub returns : goal.returns
unfolding finishing
returns c = search contraries depth 20
