-- Base and pages are read where the table has them.
use Rattle.setup.specs.Table.{places}
use Rattle.setup.proofs.window_of.Goals as goal

pub returns : goal.returns
returns c = search places
