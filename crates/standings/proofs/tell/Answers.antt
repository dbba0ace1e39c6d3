use Rattle.std.proofs.Common.{rules}
use Rattle.std.proofs.Math.Path.{refl}
use Rattle.rules.specs.Choice.{yes_or_no}
use Rattle.standings.specs.Written.{telling_first, telling_next, telling_fewer, telling_last}
use Rattle.standings.proofs.tell.Goals as goal

pub loop-ending-init : goal.loop-ending-init
loop-ending-init g c = search (telling_first, rules)

pub returns-then-not-write : goal.returns-then-not-write
returns-then-not-write g c y = absurd (yes_or_no _ y refl)

pub returns-then-is_over : goal.returns-then-is_over
returns-then-is_over g c y = let written = c.write.ensures in search (telling_last, rules)

pub loop-ending-smaller : goal.loop-ending-smaller
loop-ending-smaller g c = search (telling_fewer, rules)

pub loop-ending-preserved : goal.loop-ending-preserved
loop-ending-preserved g c = search (telling_next, rules)
