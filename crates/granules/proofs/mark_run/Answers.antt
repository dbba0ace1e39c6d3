use native.Mathlib.Omega.{arith}
use borrow.Author.Rules.{rules}
use Rattle.granules.specs.Strides.{stride_so, one_filled}
use Rattle.granules.specs.Runs.{fill_none, fill_starts, fill_goes, fill_ends}
use Rattle.granules.proofs.mark_run.Goals as goal

pub returns-then-first-gt-MOST_PAGES : goal.returns-then-first-gt-MOST_PAGES
returns-then-first-gt-MOST_PAGES c = fill_none _ _ _ _ (search rules)

pub returns-then-first-count : goal.returns-then-first-count
returns-then-first-count c = fill_none _ _ _ _ (search rules)

pub returns-then-count-eq1 : goal.returns-then-count-eq1
returns-then-count-eq1 c = one_filled _ _ _ _ (search rules) _ (search rules) (cc)

pub loop-unwritten-init : goal.loop-unwritten-init
loop-unwritten-init c = (search rules, fill_starts _ _ _ _ (search rules))

pub overflow_add-page : goal.overflow_add-page
overflow_add-page c = omega (arith, (stride_so _ _ _ c.stride_of-n.ensures).few)

pub overflow_sub-unwritten : goal.overflow_sub-unwritten
overflow_sub-unwritten c = (stride_so _ _ _ c.stride_of-n.ensures).inside (search rules)

pub loop-unwritten-smaller : goal.loop-unwritten-smaller
loop-unwritten-smaller c = omega (arith, (stride_so _ _ _ c.stride_of-n.ensures).some)

pub loop-unwritten-preserved : goal.loop-unwritten-preserved
loop-unwritten-preserved c = (
  omega (arith, (stride_so _ _ _ c.stride_of-n.ensures).inside (search rules)),
  fill_goes _ _ _ _ _ c.loop-unwritten.invariant.1 _ _ ((stride_so _ _ _ c.stride_of-n.ensures).inside (search rules)) (cc),
)

pub returns : goal.returns
returns c = fill_ends _ _ _ _ _ c.loop-unwritten.invariant.1 (search rules)
