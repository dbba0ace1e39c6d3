-- Each pass takes one line more, and what is left to be taken stays the same.
use mathlib.Core.Path.{◌≡◌}
use Prim.Native.Nat.{◌-◌}
use lib.ListN.{length}
use Rattle.inputs.specs.Feeding.{feeding}
use Rattle.counting.specs.Counted.{meaning, after_line}
use Rattle.reporting.proofs.feed.Given as goal

abbrev pub invariant-loop-frame : goal.invariant-loop-frame
invariant-loop-frame l = feeding after_line meaning (l.machine, l.tally) l.at l.chunk
    ≡ feeding after_line meaning (l.initial.machine, l.initial.tally) l.initial.at l.chunk

abbrev pub decreases-loop-frame : goal.decreases-loop-frame
decreases-loop-frame l = length l.chunk - l.at
