-- `parsing::sized` meets its promise: it tests the length that goes with the frame.
use Rattle.std.proofs.Common.{arith, refl}
use Rattle.parsing.specs.Frame.{sized_yes, sized_no}
use Rattle.parsing.proofs.sized.Goals as goal

pub returns-then-line-from : goal.returns-then-line-from
returns-then-line-from c = sized_yes _ _ _ _ (omega arith) refl

pub returns : goal.returns
returns c = sized_no _ _ _ (λ z. omega arith)
