-- `parsing::frame_of` meets its promise: each test is one of those for 71, and what passes them is known by its bytes.
use Rattle.std.proofs.Common.{arith}
use Rattle.rules.specs.Tests.{said}
use Rattle.parsing.specs.Frame.{empty_line, odd_line, long_line, no_digits, hex_line}
use Rattle.parsing.proofs.frame_of.Goals as goal
use Rattle.parsing.proofs.frame_of.Goals.{then-n-eq0-via-then-n-eq0, then-n-eq0-via-else-n-eq0+then-n-eq1, then-n-eq0-via-else-n-eq0+else-n-eq1+then-n-gt-MOST, then-n-eq0-via-else-n-eq0+else-n-eq1+else-n-gt-MOST+then-not-all_digits}

pub returns-then-n-eq0 : goal.returns-then-n-eq0
returns-then-n-eq0 c =
    elim c.then-n-eq0.branch [
      | then-n-eq0-via-then-n-eq0 w ↦ empty_line _ (omega arith)
      | then-n-eq0-via-else-n-eq0+then-n-eq1 w ↦ odd_line _ (λ z. omega arith)
      | then-n-eq0-via-else-n-eq0+else-n-eq1+then-n-gt-MOST w ↦ long_line _ (omega arith)
      | then-n-eq0-via-else-n-eq0+else-n-eq1+else-n-gt-MOST+then-not-all_digits w ↦ no_digits _ (said _ _ _ w.all_digits.ensures w.if-not-all_digits.true)
    ]

pub returns : goal.returns
returns c = hex_line _ _ (λ z. omega arith) (omega arith) (omega arith) (said _ _ _ c.all_digits.ensures c.if-not-all_digits.false) c.known_frame.ensures
