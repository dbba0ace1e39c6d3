-- `mark_run` meets its promise, since each pass writes one stride and what is left makes the same table of it as the whole run did.
use mathlib.Core.Path.{◌≡◌}
use Prim.Native.Nat.{◌+◌, ◌≤◌}
use Rattle.rules.specs.Sizes.{most_pages}
use Rattle.granules.specs.Runs.{filled, written}
use Rattle.granules.proofs.mark_run.Given as goal

abbrev pub invariant-loop-unwritten : goal.invariant-loop-unwritten
invariant-loop-unwritten l = (l.page + l.unwritten ≤ most_pages) × (filled l.initial.t l.first l.count l.m ≡ written l.t l.page l.unwritten l.m)

abbrev pub decreases-loop-unwritten : goal.decreases-loop-unwritten
decreases-loop-unwritten l = l.unwritten
