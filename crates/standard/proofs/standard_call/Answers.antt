-- Each arm of `standard_call` is reached by the key that `standard` picks it for.
use Rattle.judgements.specs.Judge.{standard}
use Rattle.rules.specs.Tests.{contraries}
use Rattle.standard.proofs.standard_call.Goals as goal

pub returns-in-2214592512 : goal.returns-in-2214592512
unfolding standard
returns-in-2214592512 c = search contraries fits 20000 depth 40

pub returns-in-2214592514 : goal.returns-in-2214592514
unfolding standard
returns-in-2214592514 c = search contraries fits 20000 depth 40

pub returns-in-2214592515 : goal.returns-in-2214592515
unfolding standard
returns-in-2214592515 c = let h = rw c.read_args.ensures at c.start_core.ensures in search (contraries, h) fits 20000 depth 40

pub returns-in-3288334339 : goal.returns-in-3288334339
unfolding standard
returns-in-3288334339 c = let h = rw c.read_args-in-3288334339.ensures at c.start_core-in-3288334339.ensures in search (contraries, h) fits 20000 depth 40

pub returns-in-2214592516 : goal.returns-in-2214592516
unfolding standard
returns-in-2214592516 c = let h = rw c.read_args-in-2214592516.ensures at c.tell_state.ensures in search (contraries, h) fits 20000 depth 40

pub returns-in-3288334340 : goal.returns-in-3288334340
unfolding standard
returns-in-3288334340 c = let h = rw c.read_args-in-3288334340.ensures at c.tell_state-in-3288334340.ensures in search (contraries, h) fits 20000 depth 40

pub returns-in-2214592522 : goal.returns-in-2214592522
unfolding standard
returns-in-2214592522 c = let h = rw c.read_args-in-2214592522.ensures at c.power_features.ensures in search (contraries, h) fits 20000 depth 40

pub returns-in_default : goal.returns-in_default
unfolding standard
returns-in_default c = search contraries fits 20000 depth 40
