-- `lines::line_end` meets its promise: what is left to be searched is searched for the same newline.
use Rattle.lines.specs.Lines.{Ahead}
use Rattle.lines.proofs.line_end.Given as goal

abbrev pub invariant-loop-i : goal.invariant-loop-i
invariant-loop-i l = Ahead l.s l.at l.i
