-- Each return of `state_of` stands where a test of `state_of` led to it, in the same order.
use Rattle.judgements.specs.Judge.{state_of}
use Rattle.rules.specs.Tests.{contraries}
use Rattle.power.proofs.state_of.Goals as goal

pub returns-then-on_core : goal.returns-then-on_core
unfolding state_of
returns-then-on_core c = search contraries depth 20

pub returns-then-pending_core : goal.returns-then-pending_core
unfolding state_of
returns-then-pending_core c = search contraries depth 20

pub returns : goal.returns
unfolding state_of
returns c = search contraries depth 20
