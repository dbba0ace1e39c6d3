-- `put_rows` meets its promise, since each pass lays one entry, and the entries that are left, laid behind it, make the same of the space.
use Prim.Native.Nat.{◌+◌, ◌-◌, ◌*◌}
use Rattle.tools.specs.Laid.{laid}
use Rattle.fip_table.specs.Table.{table_end}
use Rattle.fip_lay.specs.Laying.{Laying}
use Rattle.fip_plan.specs.Plan.{Reached}
use Rattle.fip_write.specs.Packed.{rows}
use Rattle.fip_write.proofs.parts.put_rows.Given as goal

abbrev pub invariant-loop-k : goal.invariant-loop-k
invariant-loop-k l = Reached l.plan l.n l.k l.start × Laying l.initial.out (laid l.initial.out 16 (rows l.plan 0 l.n (table_end l.n))) l.out (16 + 40 * l.k) (rows l.plan l.k (l.n - l.k) l.start)
