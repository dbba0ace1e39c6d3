-- Each pass takes one line more, and what is left to be taken stays the same.
use mathlib.Core.Path.{◌≡◌}
use Prim.Native.Nat.{◌-◌}
use lib.ListN.{length}
use Rattle.lines.specs.Input.{reading}
use Rattle.frames.specs.Frames.{machine}
use Rattle.inputs.specs.Run.{turned}
use Rattle.inputs.specs.Feeding.{feeding}
use Rattle.console.proofs.quiet.skim.Given as goal

abbrev pub invariant-loop-frame : goal.invariant-loop-frame
invariant-loop-frame l = feeding turned reading (machine l.setup l.named l.book l.owners l.saved l.powers l.turns l.lists) l.at l.chunk
    ≡ feeding turned reading (machine l.initial.setup l.initial.named l.initial.book l.initial.owners l.initial.saved l.initial.powers l.initial.turns l.initial.lists) l.initial.at l.chunk

abbrev pub decreases-loop-frame : goal.decreases-loop-frame
decreases-loop-frame l = length l.chunk - l.at
