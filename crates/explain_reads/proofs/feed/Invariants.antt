-- Each pass tells one line more, and what is left to be told stays the same.
use mathlib.Core.Path.{◌≡◌}
use Prim.Native.Nat.{◌-◌}
use lib.ListN.{length}
use Rattle.lines.specs.Input.{reading}
use Rattle.inputs.specs.Feeding.{feeding}
use Rattle.explaining.specs.Explained.{after_told}
use Rattle.explain_reads.proofs.feed.Given as goal

abbrev pub invariant-loop-frame : goal.invariant-loop-frame
invariant-loop-frame l = (feeding (after_told l.view) reading ((l.machine, (l.origins, l.count)), (l.put, l.out)) l.at l.chunk
    ≡ feeding (after_told l.view) reading ((l.initial.machine, (l.initial.origins, l.initial.count)), (l.initial.put, l.initial.out)) l.initial.at l.chunk)
    × (length l.out ≡ length l.initial.out)

abbrev pub decreases-loop-frame : goal.decreases-loop-frame
decreases-loop-frame l = length l.chunk - l.at
