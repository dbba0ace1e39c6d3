-- Each arm of `realm_call` is reached by the key that `realm_call` picks it for.
use Rattle.judgements.specs.Judge.{realm_call}
use Rattle.rules.specs.Tests.{contraries}
use Rattle.standard.proofs.realm_call.Goals as goal

pub returns-in-3288334735 : goal.returns-in-3288334735
unfolding realm_call
returns-in-3288334735 c = search contraries depth 20

pub returns-in_default : goal.returns-in_default
unfolding realm_call
returns-in_default c = search contraries depth 20
