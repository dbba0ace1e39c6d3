-- `tables_of` and `below_of` meet their promises, each by the other's: what stands below an entry is a level down, and a table's entries are counted one by one, but for those that nothing touches.
use mathlib.Core.Path.{◌≡◌}
use Prim.Native.Nat.{◌+◌, ◌-◌, ◌*◌, ◌≤◌}
use Rattle.mapping.specs.Lists.{held}
use Rattle.layout.specs.Rows.{total}
use Rattle.layout.specs.Layout.{below_at}
use Rattle.building.proofs.+below_of_tables_of.Given as goal

abbrev pub invariant-tables_of-loop-i : goal.invariant-tables_of-loop-i
invariant-tables_of-loop-i l = (l.i ≤ 512) × (l.n ≡ 1 + total (below_at (held l.lists l.world) l.level l.a) l.i)

abbrev pub decreases-tables_of-loop-i : goal.decreases-tables_of-loop-i
decreases-tables_of-loop-i l = 512 - l.i

abbrev pub decreases-below_of : goal.decreases-below_of
decreases-below_of l = 2 * l.level

abbrev pub decreases-tables_of : goal.decreases-tables_of
decreases-tables_of l = 2 * l.level + 1
