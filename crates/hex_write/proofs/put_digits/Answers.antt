use borrow.Author.Rules.{rules}
use Rattle.hex_write.specs.Downward.{downward, down_not}
use Rattle.hex_write.proofs.put_digits.Goals as goal

pub returns-then-out-n : goal.returns-then-out-n
returns-then-out-n c = down_not _ _ _ _ (search rules)

pub loop-i-preserved : goal.loop-i-preserved
loop-i-preserved c = search (downward, rules)

pub returns : goal.returns
returns c = search (downward, rules)
