-- `bytes_of` meets its promise, since each pass fills one place more by the rule.
use Rattle.hex_digits.specs.Rows.{Filled}
use Rattle.fip_identifiers.specs.Identifiers.{byte_at}
use Rattle.fip_identifiers.proofs.bytes_of.Given as goal

abbrev pub invariant-loop-i : goal.invariant-loop-i
invariant-loop-i l = Filled (byte_at l.text) 16 l.i l.b-items
