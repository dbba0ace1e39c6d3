-- No place that the loop has passed passes the test.
use Rattle.places.specs.Table.{raw}
use Rattle.places.specs.Seek.{NonePass}
use Rattle.places.proofs.count_to_last.Given as goal

abbrev pub invariant-loop-i : goal.invariant-loop-i
invariant-loop-i g l = NonePass (λ i. goal.F-post g l.passes (raw l.lists l.world i)) l.i l.n
