-- What `known_power` returns is what its callees promise, put together.
use Rattle.power.proofs.known_power.Goals as goal

pub returns : goal.returns
returns c = rw (← c.asked_key.ensures, ← c.is_known.ensures) c.affirm.ensures
