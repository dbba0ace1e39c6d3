use Rattle.std.proofs.Common.{rules}
use Rattle.std.proofs.Math.Path.{refl}
use Rattle.rules.specs.Choice.{yes_or_no}
use Rattle.explain_reads.specs.Reading.{serving_none, serving_on, served_all}
use Rattle.explain_console.proofs.serve.Goals as goal

pub loop-init : goal.loop-init
loop-init g c = search serving_none

pub returns-then-not-write : goal.returns-then-not-write
returns-then-not-write g c y = absurd (yes_or_no _ y refl)

pub returns-then-n-kept : goal.returns-then-n-kept
returns-then-n-kept g c y =
    served_all _ _ _ _ _ c.loop.invariant _ _ c.fill-n.ensures.same _ _ _ _ _ c.take_read-due.ensures (search rules) (search rules)

pub loop-preserved : goal.loop-preserved
loop-preserved g c =
    serving_on _ _ _ _ _ c.loop.invariant _ _ c.fill-n.ensures.same _ _ _ _ _ c.take_read-due.ensures (search rules) (search rules)

pub returns : goal.returns
returns g c y = absurd (yes_or_no _ y refl)
