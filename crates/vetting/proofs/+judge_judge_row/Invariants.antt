-- An entry is met by the law of each outcome, a row by one entry more at each pass. A table's row is one level further down.
use mathlib.Core.Path.{◌≡◌}
use Rattle.mapping.specs.Lists.{held}
use Rattle.vetting.specs.Pass.{place, judged_at, scan}
use Rattle.vetting.specs.Free.{FreeTo}
use Prim.Native.Nat.{◌+◌, ◌-◌, ◌*◌}
use Rattle.vetting.proofs.+judge_judge_row.Given as goal

abbrev pub invariant-judge_row-loop-i : goal.invariant-judge_row-loop-i
invariant-judge_row-loop-i l =
    (scan (judged_at l.numbers (held l.lists l.world) l.below l.table l.region) 0 l.n ≡ scan (judged_at l.numbers (held l.lists l.world) l.below l.table l.region) l.i (l.n - l.i))
    × FreeTo (held l.lists l.world) (place l.below l.region l.i) l.free

abbrev pub decreases-judge : goal.decreases-judge
decreases-judge l = 2 * l.below

abbrev pub decreases-judge_row : goal.decreases-judge_row
decreases-judge_row l = 2 * l.below + 1
