-- The mark is read where the table has it.
use Rattle.setup.specs.Table.{places}
use Rattle.setup.proofs.is_ended.Goals as goal

pub returns : goal.returns
returns c = search places
