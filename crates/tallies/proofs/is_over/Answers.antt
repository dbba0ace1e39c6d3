-- The number behind the total is 0 until a call comes too many.
use Rattle.tallies.specs.Tally.{over_is}
use Rattle.tallies.proofs.is_over.Goals as goal

pub returns : goal.returns
returns c = over_is _ _ c.count_at.ensures
