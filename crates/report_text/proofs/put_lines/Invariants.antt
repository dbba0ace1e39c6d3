-- Each pass puts the line of one place more.
use Rattle.std.proofs.Common.{◌+◌, ◌*◌, ◌≤◌, length}
use Rattle.report_text.specs.Report.{Telling}
use Rattle.report_text.proofs.put_lines.Given as goal

abbrev pub invariant-loop-i : goal.invariant-loop-i
invariant-loop-i l = Telling l.t l.initial.out l.out l.start l.at l.i × (l.start + 37 * 316 ≤ length l.initial.out)
