use mathlib.Core.Path.{refl}
use borrow.Author.Rules.{rules}
use Rattle.endings.specs.Filling.{fills_over, fills_full, fills_next, fills_inside, lines_fewer}
use Rattle.endings.proofs.put_parts.Goals as goal

pub loop-out-init : goal.loop-out-init
loop-out-init c = (refl, search rules, refl)

pub returns-then-is_over : goal.returns-then-is_over
returns-then-is_over c = search (fills_over, rules)

pub loop-out-smaller : goal.loop-out-smaller
loop-out-smaller c = search (lines_fewer, rules)

pub loop-out-preserved : goal.loop-out-preserved
loop-out-preserved c = (search rules, search (fills_inside, rules), search (fills_next, rules))

pub returns : goal.returns
returns c = search (fills_full, rules)
