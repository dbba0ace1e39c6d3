use borrow.Author.Rules.{rules}
use Rattle.stretches.specs.Steady.{steady_starts, steady_goes, steady_ends}
use Rattle.stretches.proofs.steady.Goals as goal

pub loop-i-init : goal.loop-i-init
loop-i-init c = steady_starts _ _ _ _

pub loop-i-preserved : goal.loop-i-preserved
loop-i-preserved c = steady_goes _ _ _ _ _ _ c.loop-i.invariant _ _ (search rules) c.place_of.ensures c.stretch-left.ensures

pub returns : goal.returns
returns c = steady_ends _ _ _ _ _ _ c.loop-i.invariant (search rules)
