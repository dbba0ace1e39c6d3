use borrow.Author.Rules.{rules}
use Rattle.hex_write.specs.Digits.{putting}
use Rattle.hex_write.proofs.put_pairs.Goals as goal

pub loop-i-preserved : goal.loop-i-preserved
loop-i-preserved c = search (putting, rules)

pub returns : goal.returns
returns c = search (putting, rules)
