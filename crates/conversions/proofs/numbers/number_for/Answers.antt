use Rattle.conversions.specs.Laws.{number_starts, number_goes, number_ends}
use borrow.Author.Rules.{rules}
use Rattle.conversions.proofs.numbers.number_for.Goals as goal

pub loop-page-init : goal.loop-page-init
loop-page-init c = number_starts _ _ _

pub loop-page-preserved : goal.loop-page-preserved
loop-page-preserved c = search (number_goes, rules)

pub returns : goal.returns
returns c = number_ends _ _ _ _ _ _ c.loop-page.invariant (search rules)
