-- `gap_of` meets its promise, since nothing touches what lies before the next edge of any mapping.
use native.Mathlib.Omega.{arith}
use Rattle.building.specs.Gaps.{gap_none, gap_fits, size_some}
use Rattle.building.proofs.gap_of.Goals as goal

pub returns-then-touches : goal.returns-then-touches
returns-then-touches c = gap_none _ _ _ _ _

pub overflow_mul-most : goal.overflow_mul-most
overflow_mul-most c = omega (arith, gap_fits _ _ _ c.span_of-size.ensures c.requires.1)

pub nonzero_div-n : goal.nonzero_div-n
nonzero_div-n c = size_some _ _ c.span_of-size.ensures
