-- `plan_image` meets its promise, since it lays the entry, and a plan without such an entry is left as it was.
use Rattle.fip_plan.specs.Plan.{plan_kept, plan_laid}
use borrow.Author.Rules.{rules}
use Rattle.fip_plan.proofs.plan_image.Goals as goal

pub returns-then-plan-k : goal.returns-then-plan-k
returns-then-plan-k c = plan_kept _ _ _ _ _ _ (search rules)

pub returns : goal.returns
returns c = plan_laid _ _ _ _ _ _ _ (search rules) (search rules) (search rules)
