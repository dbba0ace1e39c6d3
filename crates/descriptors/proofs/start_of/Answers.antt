-- What is left behind the whole spans is taken off, and what stays is below the limit that the number was cut to.
use borrow.Author.Rules.{rules}
use mathlib.Core.Path.{refl}
use native.Mathlib.Omega.{arith}
use Rattle.descriptors.specs.Numbers.{rest_le, rest_off, base_fits}
use Rattle.descriptors.proofs.start_of.Goals as goal

pub overflow_sub-result : goal.overflow_sub-result
overflow_sub-result c = search (rules, rest_le)

pub returns : goal.returns
returns c = let z = rest_off _ _ _ c.rest_of.ensures in
    (z, omega (arith, base_fits _ c.args.below refl c.args.number))
