use Rattle.std.proofs.Common.{rules}
use Rattle.std.proofs.Math.Path.{refl}
use Rattle.rules.specs.Choice.{yes_or_no}
use Rattle.inputs.specs.Monitor.{serving_none}
use Rattle.inputs.proofs.Monitor.{serving_on, served_all}
use Rattle.console.proofs.serve.Goals as goal

pub loop-init : goal.loop-init
loop-init g c = search serving_none

pub returns-then-not-pass_on : goal.returns-then-not-pass_on
returns-then-not-pass_on g c y = absurd (yes_or_no _ y refl)

pub returns-then-n-kept : goal.returns-then-n-kept
returns-then-n-kept g c y =
    let v = c.loop.invariant in
    let f = c.fill-n in
    served_all _ _ _ _ v _ _ f.ensures.same _ _ _ _ _ c.answer_read-due.ensures (search rules) (search rules)

pub loop-preserved : goal.loop-preserved
loop-preserved g c = search (rules, serving_on)

pub returns : goal.returns
returns g c y = absurd (yes_or_no _ y refl)
