use Rattle.spelling.specs.Spelled.{spelling_starts, spelling_goes, spelling_ends}
use borrow.Author.Rules.{rules}
use Rattle.spelling.proofs.spell.Goals as goal

pub loop-i-init : goal.loop-i-init
loop-i-init c = spelling_starts _ _

pub loop-i-preserved : goal.loop-i-preserved
loop-i-preserved c = spelling_goes _ _ _ _ _ _ _ c.loop-i.invariant (search rules) (search rules) c.put_number.ensures

pub returns : goal.returns
returns c = spelling_ends _ _ _ _ c.loop-i.invariant (search rules) (search rules)
