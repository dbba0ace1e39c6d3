-- `write_row` meets its promise, since each pass lays the zeros of a gap and one entry behind those before.
use mathlib.Core.Path.{◌≡◌}
use Prim.Native.Nat.{◌-◌, ◌*◌, ◌≤◌}
use Rattle.tools.specs.Laid.{laid}
use Rattle.mapping.specs.Lists.{held}
use Rattle.layout.specs.Layout as Layout
use Rattle.layout.specs.Rows.{rows}
use Rattle.building.proofs.write_row.Given as goal

abbrev pub invariant-loop-i : goal.invariant-loop-i
invariant-loop-i l = (l.i ≤ 512) × (l.numbers ≡ laid l.initial.numbers (512 * l.t) (rows (Layout.entry_at (held l.lists l.world) l.level l.a l.t) l.i)) × (l.next ≡ Layout.next (held l.lists l.world) l.level l.a l.t l.i)

abbrev pub decreases-loop-i : goal.decreases-loop-i
decreases-loop-i l = 512 - l.i
