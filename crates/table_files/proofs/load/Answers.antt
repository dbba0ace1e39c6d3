use borrow.Author.Rules.{rules}
use Rattle.table_files.specs.Numbers.{none_laid, one_laid, all_laid}
use mathlib.Core.Path.{refl}
use Rattle.table_files.proofs.load.Goals as goal

pub loop-i-init : goal.loop-i-init
loop-i-init c = none_laid _ _

pub loop-i-preserved : goal.loop-i-preserved
loop-i-preserved c = one_laid _ _ _ _ c.loop-i.invariant _ _ (search rules) refl

pub returns : goal.returns
returns c = all_laid _ _ _ _ c.loop-i.invariant 32768 (search rules) (search rules)
