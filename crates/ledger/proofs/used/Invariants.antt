-- The loop keeps the number of entries equal to the places passed and the entries that are left.
use mathlib.Core.Path.{◌≡◌}
use Prim.Native.Nat.{◌-◌}
use Rattle.ledger.specs.Places.{used, counted}
use Rattle.ledger.proofs.used.Given as goal

abbrev pub invariant-loop-at : goal.invariant-loop-at
invariant-loop-at l = used l.t ≡ counted l.t l.at (128 - l.at)
