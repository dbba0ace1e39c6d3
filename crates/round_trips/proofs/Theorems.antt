-- The theorems: what is stated holds of every conversion that keeps its promise, whatever the page count and the spaces.
use Rattle.std.specs.Prelude.{◌≡◌, List, ℕ, length}
use Rattle.rules.specs.Choice.{either}
use Rattle.conversions.specs.Conversions.{numbers_for, cramped, stray_bytes, number_for, written, packed}
use Rattle.round_trips.specs.Statements.{Room, Owned, Packed}
use Rattle.round_trips.specs.Judged.{judged, Outcome, outcome}
use Rattle.round_trips.specs.Asked.{has_room, not_cramped, are_owned, not_stray}
use Rattle.round_trips.proofs.Trips.{trip_of_bytes}

-- ---- a pack, whatever it answers and leaves of the numbers, if it keeps its promise
module _ (n : ℕ) (bytes numbers : List ℕ) (answer : ℕ) (numbers' : List ℕ) (promise : (answer, numbers') ≡ packed n bytes numbers) where
  how_packed : Outcome (cramped n (length bytes) (length numbers)) (stray_bytes n bytes) numbers (written (number_for n bytes) (numbers_for n) numbers) answer numbers'
  unfolding packed judged
  how_packed = outcome _ _ _ _ _ _ promise

  -- With room, and where every byte is an owner, it answers 0.
  pub pack_accepts : Room n bytes numbers → Owned n bytes → answer ≡ 0
  pack_accepts r o = how_packed.done_if (not_cramped n bytes numbers r) (not_stray n bytes o)

  -- Where it answers 0 the marks are there, and unpacking them gives the bytes back.
  pub any_packed : answer ≡ 0 → Packed n bytes numbers numbers'
  any_packed e =
      let h = how_packed in
      rw (h.space_is e) (trip_of_bytes n bytes numbers (has_room n bytes numbers (h.roomy e)) (are_owned n bytes (h.clean e)))

  -- Without room it answers 88, whatever the bytes.
  pub pack_cramped : (Room n bytes numbers → ⊥) → answer ≡ 0x88
  pack_cramped f =
      either (cramped n (length bytes) (length numbers)) how_packed.cramped_if (λ z. absurd (f (has_room n bytes numbers z)))

  -- With room, and where a byte is no owner, it answers 89.
  pub pack_stray : Room n bytes numbers → (Owned n bytes → ⊥) → answer ≡ 0x89
  pack_stray r f =
      either (stray_bytes n bytes) (how_packed.stray_if (not_cramped n bytes numbers r)) (λ z. absurd (f (are_owned n bytes z)))

  -- Where it does not answer 0, nothing is written.
  pub pack_refused : (answer ≡ 0 → ⊥) → numbers' ≡ numbers
  pack_refused = how_packed.space_stays
