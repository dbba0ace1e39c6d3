-- `hex_digits::all_digits` meets its promise: each pass passes a sign whose mark is a digit's, and the first other ends it.
use Rattle.hex_digits.specs.Read.{Left}
use Rattle.hex_digits.proofs.all_digits.Given as goal

abbrev pub invariant-loop-sign : goal.invariant-loop-sign
invariant-loop-sign l = Left l.line l.sign-index
