-- The smallest mapping of a world that holds a virtual address, and the loop that finds it.
use Rattle.std.specs.Prelude.{◌≡◌, refl, true, false, List}
use Rattle.std.proofs.Common.{sym, ◌∙◌, eqb-true}
use Prim.Native.Nat.{ℕ, zero, suc, ◌-◌, ◌≤◌, ◌<◌}
use native.Mathlib.Omega.{arith}
use Rattle.rules.specs.Choice.{pick_no, either}
use Rattle.rules.specs.Sizes.{worlds}
use Rattle.ranges.specs.Ranges.{within, within_low, within_high}
use Rattle.ranges.specs.Mapping.{holds, preferred}
use Rattle.ranges.specs.Question.{is_free}
use Rattle.ranges.specs.declared.Mapping.{Mapping}
use Rattle.places.specs.Table.{places, place, blank, reach, raw, reach_most, reach_world, place_out, place_asked}

-- the smallest of the n places from a on that holds the address, and the first of those; blank where none does
unfoldable pub smallest_from : (ℕ → Mapping) → ℕ → ℕ → ℕ → Mapping
smallest_from f x a zero = blank
smallest_from f x a (suc n) = preferred x (f a) (smallest_from f x (suc a) n)

-- the same of all places of the world
unfoldable pub decider : List ℕ → ℕ → ℕ → Mapping
decider t w x = smallest_from (place t w) x 0 places

-- ---- a free place holds no address
pub free_holds : (x : ℕ) (m : Mapping) → is_free m ≡ true → holds x m ≡ false
unfolding holds
free_holds x m e =
    let z : m.size ≡ 0 = eqb-true _ _ e in
    either (within x m.virt m.size) (λ y. absurd (omega (arith, within_low x m.virt m.size y, within_high x m.virt m.size y))) (λ n. n)

free_prefers : (x : ℕ) (m b : Mapping) → is_free m ≡ true → preferred x m b ≡ b
unfolding preferred
free_prefers x m b e = pick_no (holds x m) _ b (free_holds x m e)

free_alike : (x : ℕ) (b m : Mapping) → is_free m ≡ true → preferred x m b ≡ preferred x blank b
free_alike x b m e = free_prefers x m b e ∙ sym (free_prefers x blank b refl)

blank_from : (f : ℕ → Mapping) (x a n : ℕ) → ((j : ℕ) → a ≤ j → f j ≡ blank) → smallest_from f x a n ≡ blank
unfolding smallest_from
blank_from f x a zero h = refl
blank_from f x a (suc n) h = rw (h a (omega arith), blank_from f x (suc a) n (λ j l. h j (omega arith))) (free_prefers x blank blank refl)

-- ---- the loop of this crate's code: e is the world's reach, and b is the smallest from place i on
pub record Seen (t : List ℕ) (w x e i : ℕ) (b : Mapping) : Type 0 where
  pub most : i ≤ e
  pub is_reach : e ≡ reach t w
  pub best : b ≡ smallest_from (place t w) x i (places - i)

module _ (t : List ℕ) (w x e : ℕ) where
  pub seen_none : (b : Mapping) → e ≡ reach t w → b ≡ blank → Seen t w x e e b
  seen_none b f h = record { most = omega arith; is_reach = f; best = h ∙ sym (blank_from (place t w) x e (places - e) (λ j l. place_out t w j (rw f at l))) }

  module _ (i : ℕ) (b : Mapping) (s : Seen t w x e i b) where
    pub seen_next : (j : ℕ) (m b' : Mapping) → 0 < i → j ≡ i - 1 → m ≡ raw t w j → b' ≡ preferred x m b → Seen t w x e j b'
    unfolding smallest_from
    seen_next j m b' h f g k =
        let z : i ≡ suc j = omega arith in
        let q : e ≤ places = rw s.is_reach (reach_most t w) in
        let y : places - j ≡ suc (places - suc j) = omega (arith, s.most) in
        let u : b ≡ smallest_from (place t w) x (suc j) (places - suc j) = (rw z at s.best) in
        let l : j < e = omega (arith, s.most) in
        let v : preferred x (place t w j) b ≡ preferred x (raw t w j) b = place_asked t w j (λ (m : Mapping). preferred x m b) (free_alike x b) (rw s.is_reach at l) in
        record { most = omega (arith, s.most); is_reach = s.is_reach; best = rw (k, g, y, ← u) (sym v) }

    -- the next place is one of the world's
    pub next_world : 0 < i → w < worlds
    next_world h = let l : 0 < e = omega (arith, s.most) in reach_world t w 0 (rw s.is_reach at l)

    pub next_place : (j : ℕ) → 0 < i → j ≡ i - 1 → j < places
    next_place j h f = omega (arith, s.most, s.is_reach, reach_most t w)

    pub seen_all : i ≤ 0 → b ≡ decider t w x
    unfolding decider
    seen_all h = let z : i ≡ 0 = omega arith in (rw z at s.best)

pub ruleset seen = (seen_none, seen_next, seen_all)

pub ruleset seen_places = (next_world, next_place)
