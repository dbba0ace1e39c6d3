use native.Mathlib.Omega.{arith}
use Rattle.fip_plan.specs.Plan.{reached_start, reached_next, reached_in}
use Rattle.fip_write.specs.Laying.{images_start, images_go, images_end}
use borrow.Author.Rules.{rules}
use Rattle.fip_write.proofs.parts.put_images.Goals as goal

pub loop-k-init : goal.loop-k-init
loop-k-init c = (reached_start _ _ _ (search rules), images_start _ _ _ _ (search rules) _)

pub overflow_add-at : goal.overflow_add-at
overflow_add-at c = record { fits = omega (arith, reached_in _ _ _ _ c.loop-k.invariant.0 c.size_of-size.result (search rules) (search rules)) }

pub loop-k-preserved : goal.loop-k-preserved
loop-k-preserved c = (reached_next _ _ _ _ c.loop-k.invariant.0 _ (search rules) (search rules), images_go _ _ _ _ _ _ _ _ c.loop-k.invariant.1 _ _ _ (search rules) (search rules) c.put_bytes.ensures (search rules))

pub returns : goal.returns
returns c = images_end _ _ _ _ _ _ _ _ c.loop-k.invariant.1 (search rules)
