-- Five zeros are the table before the first frame.
use Rattle.setup.specs.Table.{places}
use Rattle.setup.proofs.fresh.Goals as goal

pub returns : goal.returns
returns c = search places
