use Rattle.cores.specs.Cores.{masked_more}
use borrow.Author.Rules.{rules}
use Rattle.cores.proofs.on_mask.Goals as goal

pub loop-core-preserved : goal.loop-core-preserved
loop-core-preserved c = search (rules, masked_more)
