use mathlib.Core.Path.{ap, ◌∙◌}
use lib.ListN.{length}
use Rattle.tools.specs.Laid.{length_laid}
use Rattle.building.specs.Gaps.{zeros_start, zeros_go, zeros_end}
use borrow.Author.Rules.{rules}
use Rattle.building.proofs.clear.Goals as goal

pub loop-i-init : goal.loop-i-init
loop-i-init c = zeros_start _ _

pub loop-i-preserved : goal.loop-i-preserved
loop-i-preserved c = zeros_go _ _ _ _ _ c.loop-i.invariant c.put.ensures

pub shape_of-numbers : goal.shape_of-numbers
shape_of-numbers c = ap length c.loop-i.invariant ∙ length_laid _ _ _

pub returns : goal.returns
returns c = zeros_end _ _ _ _ _ c.loop-i.invariant (search rules) (search rules)
