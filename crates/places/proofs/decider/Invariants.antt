-- The best so far is the smallest of the places from i on.
use Rattle.places.specs.Decider.{Seen}
use Rattle.places.proofs.decider.Given as goal

abbrev pub invariant-loop-i : goal.invariant-loop-i
invariant-loop-i l = Seen l.lists l.world l.address l.end l.i l.best
