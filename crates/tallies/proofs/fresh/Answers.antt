-- The table is the definition, written out.
use mathlib.Core.Path.{refl}
use Rattle.tallies.specs.Tally.{nothing}
use Rattle.tallies.proofs.fresh.Goals as goal

pub returns : goal.returns
unfolding nothing
returns c = refl
