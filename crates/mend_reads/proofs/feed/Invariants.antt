-- Each pass takes one line more, and what is left to be taken stays the same.
use Rattle.mending.specs.Judged.{meaning, after_line}
use Rattle.sheets.specs.Sheet.{sheet}
use Rattle.inputs.specs.Feeding.{feeding}
use lib.ListN.{length}
use Prim.Native.Nat.{◌-◌}
use mathlib.Core.Path.{◌≡◌}
use Rattle.mend_reads.proofs.feed.Given as goal

abbrev pub invariant-loop-frame : goal.invariant-loop-frame
invariant-loop-frame l = feeding after_line meaning (l.machine, sheet l.kept l.dropped l.ends) l.at l.chunk
    ≡ feeding after_line meaning (l.initial.machine, sheet l.initial.kept l.initial.dropped l.initial.ends) l.initial.at l.chunk

abbrev pub decreases-loop-frame : goal.decreases-loop-frame
decreases-loop-frame l = length l.chunk - l.at
