-- Each arm of `architecture_call` is reached by the key that `architecture` picks it for.
use Rattle.judgements.specs.Judge.{architecture}
use Rattle.rules.specs.Tests.{contraries}
use Rattle.architecture.proofs.architecture_call.Goals as goal

pub returns-in-2147483648 : goal.returns-in-2147483648
unfolding architecture
returns-in-2147483648 c = search contraries depth 20

pub returns-in-2147483649 : goal.returns-in-2147483649
unfolding architecture
returns-in-2147483649 c = let h = rw c.read_args.ensures at c.known_features.ensures in search (contraries, h) depth 20

pub returns-in_default : goal.returns-in_default
unfolding architecture
returns-in_default c = search contraries depth 20
