-- What `look` returns is what its callees promise, put together.
use Rattle.calls.proofs.look.Goals as goal

pub returns : goal.returns
returns c = rw c.turn_of-turn.ensures
