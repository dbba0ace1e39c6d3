use borrow.Author.Rules.{rules}
use Rattle.vetting.specs.Alike.{ahead_starts, ahead_stops, ahead_goes, ahead_ends, ahead_fits, ahead_less}
use Rattle.rules.specs.Tests.{said}
use native.Mathlib.Omega.{arith}
use Rattle.vetting.proofs.answers.first_otherwise.Goals as goal

pub loop-left-init : goal.loop-left-init
loop-left-init c = ahead_starts _ _ _ _ _ c.span_of-left.ensures

pub returns-then-is_otherwise : goal.returns-then-is_otherwise
returns-then-is_otherwise c = ahead_stops _ _ _ _ _ _ c.loop-left.invariant (search rules) (search (rules, said))

pub overflow_add-x : goal.overflow_add-x
overflow_add-x c = omega (arith, (ahead_fits _ _ _ _ _ _ c.loop-left.invariant _ c.requires c.steady-n.ensures).0)

pub overflow_sub-left : goal.overflow_sub-left
overflow_sub-left c = omega (arith, (ahead_fits _ _ _ _ _ _ c.loop-left.invariant _ c.requires c.steady-n.ensures).1)

pub loop-left-smaller : goal.loop-left-smaller
loop-left-smaller c = ahead_less _ _ _ _ _ _ c.loop-left.invariant _ (search rules) c.steady-n.ensures

pub loop-left-preserved : goal.loop-left-preserved
loop-left-preserved c = ahead_goes _ _ _ _ _ _ c.loop-left.invariant _ c.requires (search (rules, said)) c.steady-n.ensures

pub returns : goal.returns
returns c = ahead_ends _ _ _ _ _ _ c.loop-left.invariant (search rules)
