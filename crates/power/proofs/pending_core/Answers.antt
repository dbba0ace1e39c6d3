-- What `pending_core` returns is what its callees promise, put together.
use Rattle.power.proofs.pending_core.Goals as goal

pub returns : goal.returns
returns c = rw (← c.power_of.ensures) c.is_pending.ensures
