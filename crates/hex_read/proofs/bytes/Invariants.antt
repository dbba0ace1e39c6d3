-- `hex_read::bytes` meets its promise: each pass fills one place more by the rule.
use Rattle.hex_digits.specs.Rows.{Filled}
use Rattle.hex_read.specs.Packed.{byte_at}
use Rattle.hex_read.proofs.bytes.Given as goal

abbrev pub invariant-loop-i : goal.invariant-loop-i
invariant-loop-i l = Filled (byte_at l.ws) 64 l.i l.bs
