use native.Mathlib.Omega.{arith}
use borrow.Author.Rules.{rules}
use Rattle.tools.specs.Search.{all_ends}
use Rattle.granules.specs.Runs.{all_bear}
use Rattle.granules.specs.Strides.{stride_so, bears_inside, part_goes, part_stops, one_borne}
use Rattle.granules.proofs.all_bear.Goals as goal

pub returns-then-count-eq1 : goal.returns-then-count-eq1
returns-then-count-eq1 c = search (rules, one_borne)

pub loop-unseen-init : goal.loop-unseen-init
unfolding all_bear
loop-unseen-init c = search rules

pub overflow_add-page : goal.overflow_add-page
overflow_add-page c = omega (arith, (stride_so _ _ _ c.stride_of-n.ensures).few, bears_inside _ _ _ _ _ c.stride_bears-in-loop-unseen.ensures (search rules))

pub overflow_sub-unseen : goal.overflow_sub-unseen
overflow_sub-unseen c = (stride_so _ _ _ c.stride_of-n.ensures).inside (search rules)

pub loop-unseen-smaller : goal.loop-unseen-smaller
loop-unseen-smaller c = omega (arith, (stride_so _ _ _ c.stride_of-n.ensures).some)

pub loop-unseen-preserved : goal.loop-unseen-preserved
loop-unseen-preserved c = part_goes _ _ _ _ _ c.loop-unseen.invariant ((stride_so _ _ _ c.stride_of-n.ensures).inside (search rules)) (cc)

pub returns-then-not-stride_bears : goal.returns-then-not-stride_bears
returns-then-not-stride_bears c = part_stops _ _ _ c.stride_of-n.result _ c.loop-unseen.invariant ((stride_so _ _ _ c.stride_of-n.ensures).inside (search rules)) (cc)

pub returns : goal.returns
returns c = all_ends _ _ _ _ c.loop-unseen.invariant (search rules)
