use native.Mathlib.Omega.{arith}
use Rattle.fip_plan.specs.Plan.{reached_start, reached_next, reached_in, reached_end}
use Rattle.fip_plan.specs.Weighing.{capped_over, capped_under, table_over}
use borrow.Author.Rules.{rules}
use Rattle.fip_plan.proofs.length_of.Goals as goal

pub returns-then-at-gt-MOST_BYTES : goal.returns-then-at-gt-MOST_BYTES
returns-then-at-gt-MOST_BYTES c = table_over _ _ c.table_end-at.result (search rules) (search rules)

pub loop-k-init : goal.loop-k-init
loop-k-init c = (search rules, reached_start _ _ _ (search rules))

pub returns-then-at-size : goal.returns-then-at-size
returns-then-at-size c = capped_over _ (omega (arith, reached_in _ _ _ _ c.loop-k.invariant.1 c.size_of-size.result (search rules) (search rules)))

pub loop-k-preserved : goal.loop-k-preserved
loop-k-preserved c = (search rules, reached_next _ _ _ _ c.loop-k.invariant.1 _ (search rules) (search rules))

pub returns : goal.returns
returns c = capped_under _ _ (reached_end _ _ _ _ c.loop-k.invariant.1 (search rules)) (search rules)
