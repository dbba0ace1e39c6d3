-- From each line on the feed goes on as from the first; it ends since each line has its newline, and stops where no answer fits or no line is whole.
use Prim.Native.Nat.{◌-◌, ◌≤◌}
use lib.ListN.{length}
use Rattle.frames.specs.Frames.{machine}
use mathlib.Core.Path.{◌≡◌}
use Rattle.inputs.specs.Fed.{stand, fed}
use Rattle.stream.proofs.feed.Given as goal

abbrev pub invariant-loop-out : goal.invariant-loop-out
invariant-loop-out l = (fed l.chunk (stand (machine l.setup l.named l.book l.owners l.saved l.powers l.turns l.lists) l.at l.put l.out) ≡ fed l.chunk (stand (machine l.initial.setup l.initial.named l.initial.book l.initial.owners l.initial.saved l.initial.powers l.initial.turns l.initial.lists) l.initial.at l.initial.put l.initial.out))
    × (l.put ≤ length l.out) × (length l.out ≡ length l.initial.out)

abbrev pub decreases-loop-out : goal.decreases-loop-out
decreases-loop-out l = length l.chunk - l.at
