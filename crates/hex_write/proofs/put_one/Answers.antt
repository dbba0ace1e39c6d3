-- `hex_write::put_one` meets its promise: it is one byte.
use Rattle.tools.specs.Laid.{laid_one}
use Rattle.hex_write.proofs.put_one.Goals as goal

pub returns : goal.returns
returns c = laid_one _ _ _
