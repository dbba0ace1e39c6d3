use Rattle.conversions.specs.Laws.{laying_starts, laying_goes, laying_ends}
use borrow.Author.Rules.{rules}
use Rattle.conversions.proofs.bytes.lay_bytes.Goals as goal

pub loop-page-init : goal.loop-page-init
loop-page-init c = laying_starts _ _ _

pub loop-page-preserved : goal.loop-page-preserved
loop-page-preserved c = laying_goes _ _ _ _ _ _ c.loop-page.invariant _ (search rules) c.byte_for.ensures

pub returns : goal.returns
returns c = laying_ends _ _ _ _ _ _ c.loop-page.invariant (search rules)
