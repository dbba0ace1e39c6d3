use Rattle.std.proofs.Common.{rules}
use Rattle.std.proofs.Math.Path.{refl}
use Rattle.rules.specs.Choice.{yes_or_no}
use Rattle.lines.specs.Input.{reading, reading_blind}
use Rattle.inputs.specs.Run.{turned}
use Rattle.inputs.specs.Monitor.{serving_none}
use Rattle.inputs.proofs.Loop.{taken_on, taken_all}
use Rattle.console.proofs.quiet.read.Goals as goal

pub loop-init : goal.loop-init
loop-init g c = search serving_none

pub returns-then-n-kept : goal.returns-then-n-kept
returns-then-n-kept g c y =
    let v = c.loop.invariant in
    let f = c.fill-n in
    taken_all turned reading _ _ _ _ v _ _ f.ensures.same _ _ _ c.skim_read-waits.ensures reading_blind (search rules) (search rules)

pub loop-preserved : goal.loop-preserved
loop-preserved g c =
    let v = c.loop.invariant in
    let f = c.fill-n in
    taken_on turned reading _ _ _ _ v _ _ f.ensures.same _ _ _ c.skim_read-waits.ensures f.ensures.more (search rules)

pub returns : goal.returns
returns g c y = absurd (yes_or_no _ y refl)
