-- `weigh` meets its promise, since each return stands where a test of `hindrances` led to it, in the same order.
use mathlib.Core.Path.{refl}
use Rattle.rules.specs.Tests.{stops, goes}
use Rattle.fip_plan.specs.Plan.{hindrances}
use Rattle.fip_plan.specs.Weighing.{few_are, many_are, weighed_by, weighings}
use borrow.Author.Rules.{rules}
use Rattle.fip_plan.proofs.weigh.Goals.{then-n-gt-MOST_IMAGES-via-then-n-gt-MOST_IMAGES, then-n-gt-MOST_IMAGES-via-else-n-gt-MOST_IMAGES+then-has_blank}
use Rattle.fip_plan.proofs.weigh.Goals.{then-length-gt-MOST_BYTES-via-then-length-gt-MOST_BYTES, then-length-gt-MOST_BYTES-via-else-length-gt-MOST_BYTES+then-space-length}
use Rattle.fip_plan.proofs.weigh.Goals as goal

pub returns-then-serial-eq0 : goal.returns-then-serial-eq0
unfolding hindrances
returns-then-serial-eq0 c = weighed_by _ _ _ _ _ _ refl (search weighings depth 8)

pub returns-then-n-gt-MOST_IMAGES : goal.returns-then-n-gt-MOST_IMAGES
unfolding hindrances
returns-then-n-gt-MOST_IMAGES c = elim c.then-n-gt-MOST_IMAGES.branch [
  | then-n-gt-MOST_IMAGES-via-then-n-gt-MOST_IMAGES w ↦ weighed_by _ _ _ _ _ _ refl (goes _ _ _ _ _ _ (search weighings depth 8) (stops _ _ _ _ _ _ (many_are c.args.plan.now _ c.slots_of-n.ensures.0 _ (search rules)) refl))
  | then-n-gt-MOST_IMAGES-via-else-n-gt-MOST_IMAGES+then-has_blank w ↦ weighed_by _ _ _ _ _ _ (few_are c.args.plan.now _ c.slots_of-n.ensures.0 (search rules)) (search weighings depth 8)
]

pub returns-then-has_twins : goal.returns-then-has_twins
unfolding hindrances
returns-then-has_twins c = weighed_by _ _ _ _ _ _ (few_are c.args.plan.now _ c.slots_of-n.ensures.0 (search rules)) (search weighings depth 8)

pub returns-then-has_stray : goal.returns-then-has_stray
unfolding hindrances
returns-then-has_stray c = weighed_by _ _ _ _ _ _ (few_are c.args.plan.now _ c.slots_of-n.ensures.0 (search rules)) (search weighings depth 8)

pub returns-then-length-gt-MOST_BYTES : goal.returns-then-length-gt-MOST_BYTES
unfolding hindrances
returns-then-length-gt-MOST_BYTES c = weighed_by _ _ _ _ _ _ (few_are c.args.plan.now _ c.slots_of-n.ensures.0 (search rules))
    (elim c.then-length-gt-MOST_BYTES.branch [
      | then-length-gt-MOST_BYTES-via-then-length-gt-MOST_BYTES w ↦ search weighings depth 8
      | then-length-gt-MOST_BYTES-via-else-length-gt-MOST_BYTES+then-space-length w ↦ search weighings depth 8
    ])

pub returns : goal.returns
unfolding hindrances
returns c = weighed_by _ _ _ _ _ _ (few_are c.args.plan.now _ c.slots_of-n.ensures.0 (search rules)) (search weighings depth 8)
