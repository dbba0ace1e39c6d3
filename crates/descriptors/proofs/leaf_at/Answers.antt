-- The start and what the address has within the span are summed, far below 64 bits.
use Rattle.std.proofs.Common.{arith, refl}
use Rattle.descriptors.specs.Numbers.{rest_fits}
use Rattle.descriptors.proofs.leaf_at.Goals as goal

pub overflow_add-result : goal.overflow_add-result
overflow_add-result c = omega (arith, c.rest_of.ensures, rest_fits _ c.args.below refl c.args.address)
