-- Each number that is taken leaves fewer signs.
use Rattle.std.proofs.Common.{length, ◌≤◌}
use Rattle.conversions_run.proofs.reading.take_space.Given as goal

abbrev pub invariant-loop-text : goal.invariant-loop-text
invariant-loop-text l = length l.text.left.now ≤ length l.fn.text.left.now

abbrev pub decreases-loop-text : goal.decreases-loop-text
decreases-loop-text l = length l.text.left.now
