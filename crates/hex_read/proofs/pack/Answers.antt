-- `hex_read::pack` meets its promise: its sum is that of `packed`, and fits a byte.
use Rattle.std.proofs.Common.{rules}
use Rattle.hex_read.specs.Packed.{packed}
use Rattle.hex_read.proofs.pack.Goals as goal

pub returns : goal.returns
unfolding packed
returns c = search rules
