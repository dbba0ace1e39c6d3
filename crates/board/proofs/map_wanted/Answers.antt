-- In each arm of `map_wanted` the verdict is known, and with it what `mapping` makes of it.
use Rattle.judgements.specs.Judge.{mapping}
use Rattle.board.specs.Laws.{maps}
use Rattle.board.proofs.map_wanted.Goals as goal

pub returns-in-Ok-Hold : goal.returns-in-Ok-Hold
unfolding mapping
returns-in-Ok-Hold c = search maps

pub returns-in-Ok-Nothing : goal.returns-in-Ok-Nothing
unfolding mapping
returns-in-Ok-Nothing c = search maps

pub returns-in-Err : goal.returns-in-Err
unfolding mapping
returns-in-Err c = search maps
