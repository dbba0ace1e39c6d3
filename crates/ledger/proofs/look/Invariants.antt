-- The loop keeps the answer equal to what the walk still finds.
use mathlib.Core.Path.{◌≡◌}
use Prim.Native.Nat.{◌-◌}
use Rattle.ledger.specs.Places.{handler, onward}
use Rattle.ledger.proofs.look.Given as goal

abbrev pub invariant-loop-place : goal.invariant-loop-place
invariant-loop-place l = handler l.t l.kind l.owner ≡ onward l.t l.kind l.owner l.place-index (128 - l.place-index)
