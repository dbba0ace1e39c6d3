-- `put_ending` meets its promise, since the end entry is one of zeros but for its offset.
use Rattle.fip_write.specs.Laying.{ending_laid}
use Rattle.fip_write.proofs.parts.put_ending.Goals as goal

pub returns : goal.returns
returns c = search ending_laid
