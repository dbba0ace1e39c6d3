use Rattle.std.proofs.Common.{rules}
use Rattle.std.proofs.Math.Path.{refl}
use Rattle.rules.specs.Choice.{yes_or_no}
use Rattle.inputs.specs.Loop.{serving_none}
use Rattle.inputs.proofs.Loop.{taken_on, taken_all}
use Rattle.mending.specs.Judged.{meaning, after_line}
use Rattle.mending.specs.Laws.{meaning_blind}
use Rattle.mend_console.proofs.serve.Goals as goal

pub loop-init : goal.loop-init
loop-init g c = serving_none after_line meaning _ _

pub returns-then-n-waits : goal.returns-then-n-waits
returns-then-n-waits g c y =
    let v = c.loop.invariant in
    let f = c.fill-n in
    taken_all after_line meaning _ _ _ _ v _ _ f.ensures.same _ _ _ c.take_read-more.ensures meaning_blind (search rules) (search rules)

pub loop-preserved : goal.loop-preserved
loop-preserved g c =
    let v = c.loop.invariant in
    let f = c.fill-n in
    taken_on after_line meaning _ _ _ _ v _ _ f.ensures.same _ _ _ c.take_read-more.ensures f.ensures.more (search rules)

pub returns : goal.returns
returns g c y = absurd (yes_or_no _ y refl)
