use borrow.Author.Rules.{rules}
use Rattle.hex_digits.specs.Read.{digits_left}
use Rattle.hex_digits.proofs.all_digits.Goals as goal

pub loop-sign-init : goal.loop-sign-init
loop-sign-init c = search (digits_left, rules)

pub returns-then-digit-gt15 : goal.returns-then-digit-gt15
returns-then-digit-gt15 c = search (digits_left, rules)

pub loop-sign-preserved : goal.loop-sign-preserved
loop-sign-preserved c = search (digits_left, rules)

pub returns : goal.returns
returns c = search (digits_left, rules)
