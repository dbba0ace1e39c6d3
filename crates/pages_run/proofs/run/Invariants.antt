-- Each line that is taken leaves fewer signs.
use Rattle.std.proofs.Common.{length}
use Rattle.pages_run.proofs.run.Given as goal

abbrev pub decreases-loop-line : goal.decreases-loop-line
decreases-loop-line g l = length l.text.left.now
