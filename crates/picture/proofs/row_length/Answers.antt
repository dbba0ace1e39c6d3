-- The pages that are left, or as many as a row has.
use Rattle.std.proofs.Common.{arith}
use Rattle.picture.specs.Picture.{lengths}
use Rattle.picture.proofs.row_length.Goals as goal

pub returns : goal.returns
returns c = (lengths _ _ _ (omega arith), omega arith, omega arith)
