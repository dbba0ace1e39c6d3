-- Each part is in range of its field, so that no shift loses a bit and the sum is the whole.
use native.Mathlib.Omega.{arith}
use Rattle.identifiers.specs.Identifier.{whole_of, made_whole}
use Rattle.identifiers.proofs.Parts.whole.Goals as goal

pub returns : goal.returns
unfolding whole_of
returns c = made_whole _ _ (omega arith)
