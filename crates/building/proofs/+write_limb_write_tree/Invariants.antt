-- `write_tree` and `write_limb` meet their promises, each by the other's: what stands below an entry is a level down, and is laid behind what stands below the entries before.
use mathlib.Core.Path.{◌≡◌}
use Prim.Native.Nat.{◌+◌, ◌-◌, ◌*◌, ◌≤◌}
use Rattle.tools.specs.Laid.{laid}
use Rattle.mapping.specs.Lists.{held}
use Rattle.layout.specs.Layout as Layout
use Rattle.layout.specs.Rows.{flat}
use Rattle.layout.specs.Limbs.{limb_at}
use Rattle.building.proofs.+write_limb_write_tree.Given as goal

abbrev pub invariant-write_tree-loop-i : goal.invariant-write_tree-loop-i
invariant-write_tree-loop-i l = (l.i ≤ 512) × (l.numbers ≡ laid l.initial.numbers (512 * l.t + 512) (flat (limb_at (held l.lists l.world) l.level l.a l.t) l.i)) × (l.next ≡ Layout.next (held l.lists l.world) l.level l.a l.t l.i)

abbrev pub decreases-write_tree-loop-i : goal.decreases-write_tree-loop-i
decreases-write_tree-loop-i l = 512 - l.i

abbrev pub decreases-write_limb : goal.decreases-write_limb
decreases-write_limb l = 2 * l.level

abbrev pub decreases-write_tree : goal.decreases-write_tree
decreases-write_tree l = 2 * l.level + 1
