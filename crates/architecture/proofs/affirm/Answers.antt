-- Each return of `affirm` stands where a test of `affirmed` led to it, in the same order.
use Rattle.judgements.specs.Judge.{affirmed}
use Rattle.rules.specs.Tests.{contraries}
use Rattle.architecture.proofs.affirm.Goals as goal

pub returns-then-is : goal.returns-then-is
unfolding affirmed
returns-then-is c = search contraries depth 20

pub returns : goal.returns
unfolding affirmed
returns c = search contraries depth 20
