use Rattle.registers.specs.Registers.{writing}
use borrow.Author.Rules.{rules}
use Rattle.registers.proofs.save.Goals as goal

pub loop-i-init : goal.loop-i-init
loop-i-init c = search writing

pub loop-i-preserved : goal.loop-i-preserved
loop-i-preserved c = search (rules, writing)
