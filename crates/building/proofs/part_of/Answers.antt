-- `part_of` meets its promise, since no part ends above 2^39.
use native.Mathlib.Omega.{arith}
use Rattle.building.specs.Writing.{part_fits}
use Rattle.building.proofs.part_of.Goals as goal

pub overflow_mul-result : goal.overflow_mul-result
overflow_mul-result c = omega (arith, part_fits _ _ _ c.requires.0 c.requires.1 _ c.span_of.ensures)

pub overflow_add-result : goal.overflow_add-result
overflow_add-result c = omega (arith, part_fits _ _ _ c.requires.0 c.requires.1 _ c.span_of.ensures)

pub returns : goal.returns
returns c = rw c.span_of.ensures
