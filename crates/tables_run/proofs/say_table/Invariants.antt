-- Each pass takes a run of entries off those that are left.
use Rattle.std.proofs.Common.{◌-◌, ◌≤◌}
use Rattle.tables_run.proofs.say_table.Given as goal

abbrev pub invariant-loop-i : goal.invariant-loop-i
invariant-loop-i g l = l.i ≤ 512

abbrev pub decreases-loop-i : goal.decreases-loop-i
decreases-loop-i g l = 512 - l.i
