-- `hex_digits::read` meets its promise: each pass takes in one sign more, and sixteen fit 64 bits.
use Rattle.hex_digits.specs.Read.{Read}
use Rattle.hex_digits.proofs.read.Given as goal

abbrev pub invariant-loop-i : goal.invariant-loop-i
invariant-loop-i l = Read l.line l.at l.n l.i l.x
