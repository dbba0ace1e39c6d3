-- Each pass writes a chunk, and behind what was written comes what is left.
use Rattle.std.proofs.Common.{length}
use Rattle.endings.specs.Rest.{lines_from}
use Rattle.standings.specs.Written.{Telling}
use Rattle.standings.proofs.tell.Given as goal

abbrev pub invariant-loop-ending : goal.invariant-loop-ending
invariant-loop-ending g l = Telling l.ending.lines.now l.ending.setup.now l.ending.owners.now l.ending.origins.now l.ending.powers.now l.ending.turns.now l.ending.lists.now l.initial.part l.initial.out l.part l.out

abbrev pub decreases-loop-ending : goal.decreases-loop-ending
decreases-loop-ending g l = length (lines_from l.ending.lines.now l.ending.setup.now l.ending.owners.now l.ending.origins.now l.ending.powers.now l.ending.turns.now l.ending.lists.now l.part)
