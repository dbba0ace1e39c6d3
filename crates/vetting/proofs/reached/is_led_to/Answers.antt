use borrow.Author.Rules.{rules}
use Rattle.vetting.specs.Reached.{any_whole, any_on, any_here, any_over, leads_so, steps_fit}
use native.Mathlib.Omega.{arith}
use Prim.Native.Nat.{◌≤◌}
use Rattle.vetting.proofs.reached.is_led_to.Goals as goal

pub loop-i-init : goal.loop-i-init
loop-i-init c = any_whole _ _

pub overflow_mul-i : goal.overflow_mul-i
overflow_mul-i c = let h : c.loop-i.i ≤ 1048576 = omega arith in
    omega (arith, steps_fit _ _ _ c.span_of.ensures h)

pub returns-then-is_at : goal.returns-then-is_at
returns-then-is_at c = any_here _ _ _ _ c.loop-i.invariant (search rules)
    (leads_so _ _ _ _ _ _ _ _ c.span_of.ensures c.says_of.ensures c.is_at.ensures (search rules))

pub loop-i-preserved : goal.loop-i-preserved
loop-i-preserved c = any_on _ _ _ _ c.loop-i.invariant (search rules)
    (leads_so _ _ _ _ _ _ _ _ c.span_of.ensures c.says_of.ensures c.is_at.ensures (search rules))

pub returns : goal.returns
returns c = any_over _ _ _ _ c.loop-i.invariant (search rules)
