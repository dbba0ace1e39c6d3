-- `hex_read::join` meets its promise: pairs, bytes, and numbers with their bytes swapped come to the value of sixteen digits each.
use Rattle.std.proofs.Common.{rules}
use Rattle.hex_read.specs.Packed.{numbers_so}
use Rattle.hex_read.proofs.join.Goals as goal

pub returns : goal.returns
returns c = search (numbers_so, rules)
