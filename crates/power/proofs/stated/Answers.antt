-- What `stated` returns is what its callees promise, put together.
use Rattle.power.proofs.stated.Goals as goal

pub returns : goal.returns
returns c = rw (← c.state_of.ensures) c.grant.ensures
