-- `hex_read::low_first` meets its promise: its sum is that of `low_first`, and fits 64 bits.
use Rattle.std.proofs.Common.{rules}
use Rattle.hex_read.specs.Packed.{low_first}
use Rattle.hex_read.proofs.low_first.Goals as goal

pub returns : goal.returns
unfolding low_first
returns c = search rules
