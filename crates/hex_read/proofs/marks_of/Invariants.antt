-- `hex_read::marks_of` meets its promise: each pass takes in one sign more, its mark and whether it is a digit.
use Rattle.hex_read.specs.Many.{Scanned}
use Rattle.hex_read.proofs.marks_of.Given as goal

abbrev pub invariant-loop-i : goal.invariant-loop-i
invariant-loop-i l = Scanned l.line l.at l.i l.most l.each
