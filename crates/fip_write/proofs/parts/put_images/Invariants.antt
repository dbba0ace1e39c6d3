-- `put_images` meets its promise, since each pass lays one image, and the images that are left, laid behind it, make the same of the space.
use Prim.Native.Nat.{◌-◌}
use Rattle.tools.specs.Laid.{laid}
use Rattle.fip_table.specs.Table.{table_end}
use Rattle.fip_lay.specs.Laying.{Laying}
use Rattle.fip_plan.specs.Plan.{Reached}
use Rattle.fip_write.specs.Packed.{images}
use Rattle.fip_write.proofs.parts.put_images.Given as goal

abbrev pub invariant-loop-k : goal.invariant-loop-k
invariant-loop-k l = Reached l.plan l.n l.k l.at × Laying l.initial.out (laid l.initial.out (table_end l.n) (images l.plan l.pool 0 l.n)) l.out l.at (images l.plan l.pool l.k (l.n - l.k))
