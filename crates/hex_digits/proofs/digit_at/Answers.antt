-- `hex_digits::digit_at` meets its promise: past the end there is no digit.
use borrow.Author.Rules.{rules}
use Rattle.hex_digits.specs.Read.{digit_past, digit_same, digit_few}
use Rattle.hex_digits.proofs.digit_at.Goals as goal

pub returns-then-at-line : goal.returns-then-at-line
returns-then-at-line c = search (digit_same, digit_few, rules)

pub returns : goal.returns
returns c = search (digit_past, rules)
