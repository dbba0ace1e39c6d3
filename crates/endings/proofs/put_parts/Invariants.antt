-- Each pass puts a line, and what is left fills the space as the whole did.
use mathlib.Core.Path.{◌≡◌}
use Prim.Native.Nat.{◌≤◌}
use lib.ListN.{length}
use Rattle.endings.specs.Rest.{lines_from, filling}
use Rattle.endings.proofs.put_parts.Given as goal

abbrev pub invariant-loop-out : goal.invariant-loop-out
invariant-loop-out l = (length l.out ≡ length l.initial.out) × (l.put ≤ length l.out)
    × (filling (lines_from l.ending.lines.now l.ending.setup.now l.ending.owners.now l.ending.origins.now l.ending.powers.now l.ending.turns.now l.ending.lists.now l.initial.next) 0 l.initial.out ≡ filling (lines_from l.ending.lines.now l.ending.setup.now l.ending.owners.now l.ending.origins.now l.ending.powers.now l.ending.turns.now l.ending.lists.now l.next) l.put l.out)

abbrev pub decreases-loop-out : goal.decreases-loop-out
decreases-loop-out l = length (lines_from l.ending.lines.now l.ending.setup.now l.ending.owners.now l.ending.origins.now l.ending.powers.now l.ending.turns.now l.ending.lists.now l.next)
