-- After i turns the first i numbers are written, and writing the rest makes the table that is promised (`Writing`).
use Rattle.registers.specs.Registers.{Writing}
use Rattle.registers.proofs.save.Given as goal

abbrev pub invariant-loop-i : goal.invariant-loop-i
invariant-loop-i l = Writing l.initial.t l.core l.world l.xs l.a l.i-end l.t l.i
