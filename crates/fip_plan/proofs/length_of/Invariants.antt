-- `length_of` meets its promise, since it adds up the sizes, and ends as soon as they reach over the most.
use Prim.Native.Nat.{◌≤◌}
use Rattle.fip_plan.specs.Plan.{Reached}
use Rattle.fip_plan.proofs.length_of.Given as goal

abbrev pub invariant-loop-k : goal.invariant-loop-k
invariant-loop-k l = (l.at ≤ 65536) × Reached l.plan l.n l.k l.at
