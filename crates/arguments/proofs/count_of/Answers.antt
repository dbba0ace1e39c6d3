use Rattle.std.proofs.Common.{◌∙◌, arith, rules}
use Rattle.arguments.specs.Words.{other_here, others_on, worth, worth_goes, counted_empty, counted_not, counted_yes}
use Rattle.arguments.proofs.count_of.Goals as goal

pub returns-then-is_empty : goal.returns-then-is_empty
returns-then-is_empty c = counted_empty _ (search rules)

pub loop-sign-init : goal.loop-sign-init
unfolding worth
loop-sign-init c = (search rules, search rules, search rules)

pub returns-in_err-d : goal.returns-in_err-d
returns-in_err-d c =
    c.from_residual.ensures ∙ counted_not _ (other_here _ _ _ c.loop-sign.invariant.0 c.loop-sign-test.true (c.in_err-d.ensures))

pub loop-sign-preserved : goal.loop-sign-preserved
loop-sign-preserved c =
    let d = c.in_ok-d.ensures in
    (others_on _ _ _ c.loop-sign.invariant.0 c.loop-sign-test.true (omega (arith, d)), worth_goes _ _ _ _ _ c.loop-sign.invariant.1 d.0 c.with_digit-n.ensures.0, c.with_digit-n.ensures.1)

pub returns : goal.returns
returns c = counted_yes _ _ _ c.loop-sign.invariant.0 (search rules) (omega (arith, c.loop-sign.auto.sign-index-end)) c.loop-sign.invariant.1
