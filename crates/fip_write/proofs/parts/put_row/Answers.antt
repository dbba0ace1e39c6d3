-- `put_row` meets its promise, since identifier, place, size and flags lie one behind the other.
use Rattle.fip_write.specs.Laying.{row_laid}
use Rattle.fip_write.proofs.parts.put_row.Goals as goal

pub returns : goal.returns
returns c = search row_laid
