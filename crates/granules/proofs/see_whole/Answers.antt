-- `see_whole` meets its promise, since the length stands in the type and each number has 64 bits.
use native.Mathlib.Omega.{arith}
use borrow.Author.Rules.{rules}
use Rattle.granules.specs.Table.{whole_of}
use Rattle.granules.proofs.see_whole.Goals as goal

pub returns : goal.returns
returns c = whole_of _ (search rules) (λ i. omega (arith, c.shared_slice_known-1.given i))
