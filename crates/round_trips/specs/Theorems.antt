-- The theorems: what is stated holds of every conversion that keeps its promise, whatever the page count and the spaces.
use Rattle.std.specs.Prelude.{◌≡◌, List, ℕ, ◌/◌, ◌%◌, ◌≤◌, ◌<◌, length, get_or}
use Rattle.std.proofs.Math.Path.{sym}
use Rattle.std.proofs.Common.{ap, ◌∙◌, arith}
use Rattle.rules.specs.Sizes.{last_world}
use Rattle.rules.specs.Choice.{either}
use Rattle.marks.specs.Digits.{digit_plain}
use Rattle.marks.specs.Owners.{mark_of, owner_of, owner_of_mark, mark_low, mark_high, marks_listed}
use Rattle.conversions.specs.Conversions.{byte_of, mark_in, cramped, stray_marks, byte_for, written, unpacked}
use Rattle.round_trips.specs.Statements.{plain_mark, Room, Owned, Marked, Unpacked, Granules, Shown}
use Rattle.round_trips.specs.Judged.{judged, Outcome, outcome}
use Rattle.round_trips.specs.Asked.{has_room, not_cramped, are_marked, not_strays}
use Rattle.round_trips.specs.Trips.{trip_of_numbers}

-- ---- an unpack, whatever it answers and leaves of the bytes, if it keeps its promise
module _ (n : ℕ) (numbers bytes : List ℕ) (answer : ℕ) (bytes' : List ℕ) (promise : (answer, bytes') ≡ unpacked n numbers bytes) where
  how_unpacked : Outcome (cramped n (length bytes) (length numbers)) (stray_marks n numbers) bytes (written (byte_for numbers) n bytes) answer bytes'
  unfolding unpacked judged
  how_unpacked = outcome _ _ _ _ _ _ promise

  -- With room, and where every mark is an owner's and the padding 0, it answers 0.
  pub unpack_accepts : Room n bytes numbers → Marked n numbers → answer ≡ 0
  unpack_accepts r m = how_unpacked.done_if (not_cramped n bytes numbers r) (not_strays n numbers m)

  -- Where it answers 0 the bytes are there, and packing them gives the numbers back.
  pub any_unpacked : answer ≡ 0 → Unpacked n numbers bytes bytes'
  any_unpacked e =
      let h = how_unpacked in
      rw (h.space_is e) (trip_of_numbers n numbers bytes (has_room n bytes numbers (h.roomy e)) (are_marked n numbers (h.clean e)))

  -- Without room it answers 88, whatever the numbers.
  pub unpack_cramped : (Room n bytes numbers → ⊥) → answer ≡ 0x88
  unpack_cramped f =
      either (cramped n (length bytes) (length numbers)) how_unpacked.cramped_if (λ z. absurd (f (has_room n bytes numbers z)))

  -- With room, and where a mark is no owner's or the padding is not 0, it answers 89.
  pub unpack_stray : Room n bytes numbers → (Marked n numbers → ⊥) → answer ≡ 0x89
  unpack_stray r f =
      either (stray_marks n numbers) (how_unpacked.stray_if (not_cramped n bytes numbers r)) (λ z. absurd (f (are_marked n numbers z)))

  -- Where it does not answer 0, nothing is written.
  pub unpack_refused : (answer ≡ 0 → ⊥) → bytes' ≡ bytes
  unpack_refused = how_unpacked.space_stays

-- ---- a table with the marks of n pages and 0 behind them is one that unpacks
module _ (n : ℕ) (table : List ℕ) (owner : ℕ → ℕ) (g : Granules n table owner) (bytes : List ℕ) (r : Room n bytes table) where
  plain_is : (page : ℕ) → mark_in table page ≡ plain_mark table page
  unfolding mark_in
  plain_is page = sym (digit_plain (get_or table (page / 16) 0) (page % 16))

  own_mark : (page : ℕ) → page < n → mark_in table page ≡ mark_of (owner page)
  own_mark page h = plain_is page ∙ g.marks page h ∙ sym (marks_listed (owner page) (g.worlds page h))

  own_marked : Marked n table
  own_marked = record {
    low = λ page h. rw (own_mark page h) (mark_low (owner page) (g.worlds page h));
    high = λ page h. rw (own_mark page h) (mark_high (owner page) (g.worlds page h));
    padding = λ page h l. plain_is page ∙ g.padding page h (omega (arith, r.most));
  }

  shown_owner : (bytes' : List ℕ) → Unpacked n table bytes bytes' → (page : ℕ) → page < n → byte_of bytes' page ≤ last_world
  unfolding Owned
  shown_owner bytes' u page h = u.owners page h

  pub any_shown : (answer : ℕ) (bytes' : List ℕ) → (answer, bytes') ≡ unpacked n table bytes → Shown n owner bytes answer bytes'
  any_shown answer bytes' promise =
      let a = unpack_accepts n table bytes answer bytes' promise r own_marked in
      let u = any_unpacked n table bytes answer bytes' promise a in
      record {
        answered = a;
        each = λ page h. sym (owner_of_mark _ (shown_owner bytes' u page h)) ∙ ap owner_of (u.each page h ∙ own_mark page h) ∙ owner_of_mark (owner page) (g.worlds page h);
        past = u.past;
      }
