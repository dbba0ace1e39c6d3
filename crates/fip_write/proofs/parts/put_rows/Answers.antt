use native.Mathlib.Omega.{arith}
use Rattle.fip_plan.specs.Plan.{reached_start, reached_next, reached_in}
use Rattle.fip_write.specs.Laying.{rows_start, rows_go, rows_end}
use borrow.Author.Rules.{rules}
use Rattle.fip_write.proofs.parts.put_rows.Goals as goal

pub loop-k-init : goal.loop-k-init
loop-k-init c = (reached_start _ _ _ (search rules), rows_start _ _ _ _ (search rules))

pub overflow_add-start : goal.overflow_add-start
overflow_add-start c = record { fits = omega (arith, reached_in _ _ _ _ c.loop-k.invariant.0 c.size_of.result (search rules) (search rules)) }

pub loop-k-preserved : goal.loop-k-preserved
loop-k-preserved c = (reached_next _ _ _ _ c.loop-k.invariant.0 _ (search rules) (search rules), rows_go _ _ _ _ _ _ _ c.loop-k.invariant.1 _ _ (search rules) c.put_row.ensures (search rules))

pub returns : goal.returns
returns c = rows_end _ _ _ _ _ _ _ c.loop-k.invariant.1 (search rules)
