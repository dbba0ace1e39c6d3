-- Each name that is taken leaves fewer signs.
use Rattle.std.proofs.Common.{length}
use Rattle.conversions_run.proofs.run.Given as goal

abbrev pub decreases-loop-text : goal.decreases-loop-text
decreases-loop-text g l = length l.text.left.now
