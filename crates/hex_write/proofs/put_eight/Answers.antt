use borrow.Author.Rules.{rules}
use Rattle.hex_write.specs.Bytes.{lowering}
use Rattle.hex_write.proofs.put_eight.Goals as goal

pub loop-i-preserved : goal.loop-i-preserved
loop-i-preserved c = search (lowering, rules)

pub returns : goal.returns
returns c = search (lowering, rules)
