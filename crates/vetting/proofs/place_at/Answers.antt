-- The part begins in the region, far below 64 bits.
use Rattle.vetting.specs.Rooms.{place_fits}
use native.Mathlib.Omega.{arith}
use Rattle.vetting.proofs.place_at.Goals as goal

pub overflow_mul-result : goal.overflow_mul-result
overflow_mul-result c = omega (arith, place_fits _ _ _ c.requires.0 c.requires.1 _ c.span_of.ensures)

pub overflow_add-result : goal.overflow_add-result
overflow_add-result c = omega (arith, place_fits _ _ _ c.requires.0 c.requires.1 _ c.span_of.ensures)

pub returns : goal.returns
returns c = rw c.span_of.ensures
