-- What `known_features` returns is what its callees promise, put together.
use Rattle.judgements.specs.Judge.{featuring}
use Rattle.architecture.proofs.known_features.Goals as goal

pub returns : goal.returns
unfolding featuring
returns c = rw (← c.asked_key.ensures, ← c.is_known.ensures) c.affirm.ensures
