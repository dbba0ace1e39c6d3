-- The table with its second mark set is written out.
use Rattle.setup.specs.Table.{places}
use Rattle.setup.proofs.end.Goals as goal

pub returns : goal.returns
returns c = search places
