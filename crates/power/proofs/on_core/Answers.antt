-- What `on_core` returns is what its callees promise, put together.
use Rattle.power.proofs.on_core.Goals as goal

pub returns : goal.returns
returns c = rw (← c.power_of.ensures) c.is_on.ensures
