-- `hex_read::words` meets its promise: each pass fills one place more by the rule.
use Rattle.hex_digits.specs.Rows.{Filled}
use Rattle.hex_read.specs.Packed.{word_at}
use Rattle.hex_read.proofs.words.Given as goal

abbrev pub invariant-loop-i : goal.invariant-loop-i
invariant-loop-i l = Filled (word_at l.bs) 8 l.i l.ys
