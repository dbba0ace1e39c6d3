-- `put_numbers` meets its promise, since each number is laid behind the one before.
use Rattle.fip_lay.specs.Laying.{numbers_laid}
use Rattle.fip_lay.proofs.put_numbers.Goals as goal

pub returns : goal.returns
returns c = search numbers_laid
