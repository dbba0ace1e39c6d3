-- `lines::to_front` meets its promise: each pass moves one byte, from behind or from its own place, so none is lost before it is read.
use Rattle.lines.specs.Front.{Moving}
use Rattle.lines.proofs.to_front.Given as goal

abbrev pub invariant-loop-i : goal.invariant-loop-i
invariant-loop-i l = Moving l.initial.s l.s l.from l.i
