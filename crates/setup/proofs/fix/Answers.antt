-- The table with its site is written out.
use Rattle.setup.specs.Table.{places}
use Rattle.setup.proofs.fix.Goals as goal

pub returns : goal.returns
returns c = search places
