-- `hex_read::pairs` meets its promise: each pass fills one place more by the rule.
use Rattle.hex_digits.specs.Rows.{Filled}
use Rattle.hex_read.specs.Packed.{pair_at}
use Rattle.hex_read.proofs.pairs.Given as goal

abbrev pub invariant-loop-i : goal.invariant-loop-i
invariant-loop-i l = Filled (pair_at l.ds) 64 l.i l.ws
