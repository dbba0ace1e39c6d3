use borrow.Author.Rules.{rules}
use Rattle.hex_digits.specs.Read.{reading}
use Rattle.hex_digits.proofs.read.Goals as goal

pub loop-i-init : goal.loop-i-init
loop-i-init c = search (reading, rules)

pub overflow_mul-x : goal.overflow_mul-x
overflow_mul-x c = search (reading, rules)

pub overflow_add-x : goal.overflow_add-x
overflow_add-x c = search (reading, rules)

pub loop-i-preserved : goal.loop-i-preserved
loop-i-preserved c = search (reading, rules)

pub returns : goal.returns
returns c = search (reading, rules)
