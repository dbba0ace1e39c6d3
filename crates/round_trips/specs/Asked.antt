-- The tests of a conversion are what it asks for, in plain words.
use Rattle.std.specs.Prelude.{◌≡◌, false, List, ℕ, ◌*◌, ◌≤◌, ◌<◌, ltb, length}
use Rattle.std.proofs.Common.{sym, ◌∙◌}
use native.Mathlib.Omega.{arith}
use borrow.Author.Tests.{ltb-true, ltb-false, lt-ltb, le-ltb}
use Rattle.rules.specs.Sizes.{last_world}
use Rattle.rules.specs.Choice.{pick_yes, pick_no, either}
use Rattle.tools.specs.Search.{any_not, any_if_not}
use Rattle.marks.specs.Owners.{owner_of, owner_world}
use Rattle.marks.proofs.Owners.{owner_below, owner_above}
use Rattle.conversions.specs.Conversions.{mark_in, numbers_for, cramped, stray_byte, stray_mark, stray_bytes, stray_marks}
use Rattle.converting.specs.Outcomes.{roomy, some_pages, most_pages_lem, bytes_fit, numbers_fit}
use Rattle.round_trips.specs.Statements.{Room, Owned, Marked}

module _ (n : ℕ) (bytes numbers : List ℕ) where
  pub has_room : cramped n (length bytes) (length numbers) ≡ false → Room n bytes numbers
  has_room e =
      let s = some_pages n (length bytes) (length numbers) e in
      record {
        some = omega arith;
        most = most_pages_lem n (length bytes) (length numbers) e;
        bytes_fit = bytes_fit n (length bytes) (length numbers) e;
        numbers_fit = numbers_fit n (length bytes) (length numbers) e;
      }

  pub not_cramped : Room n bytes numbers → cramped n (length bytes) (length numbers) ≡ false
  not_cramped r = sym (roomy n (length bytes) (length numbers) (λ e. let h = r.some in omega arith) r.most r.bytes_fit r.numbers_fit)

module _ (n : ℕ) (bytes : List ℕ) where
  pub are_owned : stray_bytes n bytes ≡ false → Owned n bytes
  unfolding Owned stray_bytes stray_byte
  are_owned e page h = ltb-false _ _ (any_not (stray_byte bytes) 0 n page e (omega arith) (omega arith))

  pub not_stray : Owned n bytes → stray_bytes n bytes ≡ false
  unfolding Owned stray_bytes stray_byte
  not_stray f = any_if_not (stray_byte bytes) 0 n (λ page h l. le-ltb _ _ (f page (omega arith)))

-- a mark is an owner's exactly where it is one of 8 to B
owner_low : (m : ℕ) → owner_of m ≤ last_world → 8 ≤ m
owner_low m h = either (ltb m 8) (λ y. let e = owner_below m (ltb-true m 8 y) in absurd (omega arith)) (λ z. ltb-false m 8 z)

owner_high : (m : ℕ) → owner_of m ≤ last_world → m ≤ 11
owner_high m h = either (ltb 11 m) (λ y. let e = owner_above m (ltb-true 11 m y) in absurd (omega arith)) (λ z. ltb-false 11 m z)

module _ (n : ℕ) (numbers : List ℕ) where
  module _ (e : stray_marks n numbers ≡ false) where
    mark_judged : (page : ℕ) → page < 16 * numbers_for n → stray_mark n numbers page ≡ false
    unfolding stray_marks
    mark_judged page h = any_not (stray_mark n numbers) 0 (16 * numbers_for n) page e (omega arith) (omega arith)

    has_owner : (page : ℕ) → page < n → owner_of (mark_in numbers page) ≤ last_world
    unfolding stray_mark
    has_owner page h = ltb-false _ _ (sym (pick_yes _ _ _ (lt-ltb page n h)) ∙ mark_judged page (omega arith))

    no_padding : (page : ℕ) → n ≤ page → page < 16 * numbers_for n → mark_in numbers page ≡ 0
    unfolding stray_mark
    no_padding page h l = let z : mark_in numbers page ≤ 0 = ltb-false _ _ (sym (pick_no _ _ _ (le-ltb page n h)) ∙ mark_judged page l) in omega arith

    pub are_marked : Marked n numbers
    are_marked = record {
      low = λ page h. owner_low _ (has_owner page h);
      high = λ page h. owner_high _ (has_owner page h);
      padding = no_padding;
    }

  pub not_strays : Marked n numbers → stray_marks n numbers ≡ false
  unfolding stray_marks stray_mark
  not_strays m =
      any_if_not (stray_mark n numbers) 0 (16 * numbers_for n)
      (λ page h l. either (ltb page n)
      (λ y. let b = ltb-true page n y in pick_yes _ _ _ y ∙ le-ltb _ _ (owner_world _ (m.low page b) (m.high page b)))
      (λ z. pick_no _ _ _ z ∙ le-ltb 0 (mark_in numbers page) (let p = m.padding page (ltb-false page n z) (omega arith) in omega arith)))
