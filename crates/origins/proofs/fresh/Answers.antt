-- The table is the definition, written out.
use Rattle.origins.specs.Origins.{none_is}
use Rattle.origins.proofs.fresh.Goals as goal

pub returns : goal.returns
returns c = none_is
