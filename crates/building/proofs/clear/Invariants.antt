-- `clear` meets its promise, since each pass lays one zero behind those before it.
use Rattle.std.proofs.Common.{◌≡◌}
use Rattle.tools.specs.Laid.{laid}
use Rattle.layout.specs.Rows.{rows, nil}
use Rattle.building.proofs.clear.Given as goal

abbrev pub invariant-loop-i : goal.invariant-loop-i
invariant-loop-i l = l.numbers ≡ laid l.initial.numbers l.at (rows nil l.i)
