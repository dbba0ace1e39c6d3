use Rattle.conversions.specs.Laws.{laying_starts, laying_goes, laying_ends}
use borrow.Author.Rules.{rules}
use Rattle.conversions.proofs.numbers.lay_numbers.Goals as goal

pub loop-i-init : goal.loop-i-init
loop-i-init c = laying_starts _ _ _

pub loop-i-preserved : goal.loop-i-preserved
loop-i-preserved c = laying_goes _ _ _ _ _ _ c.loop-i.invariant _ (search rules) (search rules)

pub returns : goal.returns
returns c = laying_ends _ _ _ _ _ _ c.loop-i.invariant (search rules)
