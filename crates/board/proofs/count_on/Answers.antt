-- What `count_on` returns is what its callees promise, put together.
use Rattle.board.proofs.count_on.Goals as goal

pub returns : goal.returns
returns c = rw (← c.on_count.ensures) c.grant.ensures
