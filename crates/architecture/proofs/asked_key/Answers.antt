-- What `asked_key` returns is what its callees promise, put together.
use Rattle.architecture.proofs.asked_key.Goals as goal

pub returns : goal.returns
returns c = rw (← c.of.ensures) c.key.ensures
