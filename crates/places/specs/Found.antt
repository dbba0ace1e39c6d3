-- The lowest place of a world that answers a question, where a new mapping goes, whether a place clashes with it, and the searches for them.
use Rattle.std.specs.Prelude.{◌≡◌, refl, Bool, true, false, Option, Some, None, List, ℕ, ◌+◌, ◌-◌, ◌≤◌, ◌<◌, ltb, eqb}
use Rattle.std.proofs.Math.Path.{sym}
use Rattle.std.proofs.Common.{◌∙◌}
use native.Mathlib.Omega.{arith}
use borrow.Author.Tests.{lt-ltb, le-ltb, ltb-true, ltb-false, ne_eqb, eqb-true}
use Rattle.rules.specs.Choice.{pick, picked, passed, pick_yes, pick_no, either, chosen, right_false, yes_or_no}
use Rattle.ranges.specs.Mapping.{exact}
use Rattle.tools.specs.Search.{first, first_is, first_by, first_blind, any, any_by, any_if_not}
use Rattle.ranges.specs.Question.{is_free, asks_free, asks, answers, clashing}
use Rattle.ranges.specs.declared.Mapping.{Mapping}
use Rattle.ranges.specs.declared.Question.{Question}
use Rattle.ranges.specs.declared.Question.TheVariants.{Free, Exact}
use Rattle.std.specs.Option.{unwrap_or, is_some}
use Rattle.places.specs.Seek.{NonePass, Lowest, ToLast}
use Rattle.places.specs.Table.{places, place, blank, reach, raw, upto, upto_most, upto_fails, upto_passes, upto_past, upto_same, used, used_reach, used_free, used_same, reach_most, place_out, place_asked}

-- what is asked of each place
abbrev pub asked : List ℕ → ℕ → Question → ℕ → Bool
asked t w q i = answers q (place t w i)

-- the lowest place of the world that answers, or 16
unfoldable pub found : List ℕ → ℕ → Question → ℕ
found t w q = first (asked t w q) 0 places

-- how many places there are up to the last that is held with exactly this start and size: 0 where none is
unfoldable pub latest : List ℕ → ℕ → ℕ → ℕ → ℕ
latest t w v s = upto (asked t w (Exact v s)) places

-- where a new mapping goes: behind the last that is held; where that is the last place, to the lowest that is free; 16 where none is
unfoldable pub spot : List ℕ → ℕ → ℕ
spot t w = pick (ltb (used t w) places) (used t w) (found t w Free)

-- ---- what is asked of a free place
free_answers : (q : Question) (m : Mapping) → is_free m ≡ true → answers q m ≡ answers q blank
unfolding answers
free_answers q m e = pick_yes (is_free m) _ _ e ∙ sym (pick_yes (is_free blank) _ _ refl)

free_clashes : (n m : Mapping) → is_free m ≡ true → clashing n m ≡ clashing n blank
unfolding clashing
free_clashes n m e = pick_yes (is_free m) _ _ e ∙ sym (pick_yes (is_free blank) _ _ refl)

pub free_asked : (m : Mapping) → answers Free m ≡ is_free m
unfolding answers asks_free asks
free_asked m = either (is_free m) (λ y. pick_yes (is_free m) _ _ y ∙ sym y) (λ n. pick_no (is_free m) _ _ n ∙ sym n)

blank_answers : (q : Question) → answers q blank ≡ asks_free q
unfolding answers
blank_answers q = pick_yes (is_free blank) _ _ refl

blank_clashes : (n : Mapping) → clashing n blank ≡ false
unfolding clashing
blank_clashes n = pick_yes (is_free blank) _ _ refl

-- ---- the searches of this crate's code, by what their test said
module _ (t : List ℕ) (w : ℕ) (q : Question) (said : ℕ → Bool → Type 0) (tells : (j : ℕ) (b : Bool) → said j b → b ≡ answers q (raw t w j)) where
  asked_said : (j : ℕ) (b : Bool) → j < reach t w → said j b → asked t w q j ≡ b
  asked_said j b h s = place_asked t w j (answers q) (free_answers q) h ∙ sym (tells j b s)

  -- past the reach no place is held
  asked_past : (j : ℕ) → reach t w ≤ j → asked t w q j ≡ asks_free q
  asked_past j h = rw (place_out t w j h) (blank_answers q)

  module _ (none : NonePass said 0 (reach t w)) where
    found_none : asks_free q ≡ false → places ≡ found t w q
    unfolding found
    found_none o =
        first_blind (asked t w q) 0 places
        (λ j h l. either (ltb j (reach t w)) (λ y. let m = ltb-true j (reach t w) y in asked_said j false m (none j h m)) (λ z. asked_past j (ltb-false j (reach t w) z) ∙ o))

    found_next : asks_free q ≡ true → reach t w ≡ found t w q
    unfolding found
    found_next o =
        either (ltb (reach t w) places)
        (λ y. first_by (asked t w q) 0 places (reach t w) (omega arith) (omega (arith, ltb-true (reach t w) places y)) (λ j h l. asked_said j false l (none j h l)) (asked_past (reach t w) (omega arith) ∙ o))
        (λ z. let e : reach t w ≡ places = omega (arith, ltb-false (reach t w) places z, reach_most t w) in
        e ∙ first_blind (asked t w q) 0 places (λ j h l. let m : j < reach t w = omega arith in asked_said j false m (none j h m)))

  found_here : (i : ℕ) → i < reach t w → said i true → NonePass said 0 i → i ≡ found t w q
  unfolding found
  found_here i h s none =
      first_by (asked t w q) 0 places i (omega arith) (omega (arith, reach_most t w)) (λ j k l. asked_said j false (omega arith) (none j k l)) (asked_said i true h s)

  pub found_held : (r : Option ℕ) → Lowest said (reach t w) r → asks_free q ≡ false → unwrap_or r places ≡ found t w q
  found_held (Some i) l o = found_here i l.ends.0 l.ends.1.0 l.ends.1.1
  found_held None l o = found_none l.ends o

  pub found_free : (r : Option ℕ) → Lowest said (reach t w) r → asks_free q ≡ true → unwrap_or r (reach t w) ≡ found t w q
  found_free (Some i) l o = found_here i l.ends.0 l.ends.1.0 l.ends.1.1
  found_free None l o = found_next l.ends o

-- the same from the last place down
module _ (p : ℕ → Bool) (said : ℕ → Bool → Type 0) (n : ℕ) (tells : (j : ℕ) (b : Bool) → j < n → said j b → b ≡ p j) (r : ℕ) (l : ToLast said n r) where
  pub to_last : r ≡ upto p n
  to_last =
      let m = upto_most p n in
      either (ltb r (upto p n))
      (λ y. let b = ltb-true r (upto p n) y in
      absurd (yes_or_no (p (upto p n - 1)) (upto_passes p n (omega arith)) (sym (tells (upto p n - 1) false (omega arith) (l.behind (upto p n - 1) (omega arith) (omega arith))))))
      (λ z. let b = ltb-false r (upto p n) z in
      either (ltb (upto p n) r)
      (λ y. let c = ltb-true (upto p n) r y in
      absurd (yes_or_no (p (r - 1)) (sym (tells (r - 1) true (omega (arith, l.within)) (l.passes (omega arith)))) (upto_fails p n (r - 1) (omega arith) (omega (arith, l.within)))))
      (λ y. let c = ltb-false (upto p n) r y in omega arith))

-- ---- where a new mapping goes
module _ (t : List ℕ) (w n : ℕ) where
  pub spot_behind : n ≡ used t w → n < places → n ≡ spot t w
  unfolding spot
  spot_behind e h = picked _ _ _ _ (lt-ltb (used t w) places (rw e at h)) e

  pub spot_between : (r : ℕ) → n ≡ used t w → places ≤ n → r ≡ found t w Free → r ≡ spot t w
  unfolding spot
  spot_between r e h f = passed _ _ _ _ (le-ltb (used t w) places (rw e at h)) f

pub ruleset spots = (spot_behind, spot_between)

module _ (t : List ℕ) (w : ℕ) where
  found_most : found t w Free ≤ places
  unfolding found
  found_most = (first_is (asked t w Free) 0 places).high

  -- within the reach, or the next
  pub spot_reach : spot t w ≤ reach t w
  unfolding spot
  spot_reach =
      chosen (λ (k : ℕ). k ≤ reach t w) (ltb (used t w) places) _ _ (λ y. used_reach t w)
      (λ n. omega (arith, found_most, ltb-false (used t w) places n, used_reach t w))

  found_passes : found t w Free < places → asked t w Free (found t w Free) ≡ true
  unfolding found
  found_passes h = (first_is (asked t w Free) 0 places).passes (omega arith)

  -- it is free, and where it is no place none is free
  pub spot_free : spot t w < places → is_free (place t w (spot t w)) ≡ true
  unfolding spot
  spot_free =
      chosen (λ (k : ℕ). k < places → is_free (place t w k) ≡ true) (ltb (used t w) places) _ _ (λ y h. used_free t w (used t w) (omega arith) h)
      (λ n h. sym (free_asked (place t w (found t w Free))) ∙ found_passes h)

  pub spot_full : places ≤ spot t w → places ≤ found t w Free
  unfolding spot
  spot_full = chosen (λ (k : ℕ). places ≤ k → places ≤ found t w Free) (ltb (used t w) places) _ _ (λ y h. absurd (omega (arith, ltb-true (used t w) places y))) (λ n h. h)

-- it goes by the places alone
pub spot_same : (t u : List ℕ) (w : ℕ) → ((i : ℕ) → place t w i ≡ place u w i) → spot t w ≡ spot u w
unfolding spot found
spot_same t u w same =
    let a : used t w ≡ used u w = used_same t u w same in
    let b : first (asked t w Free) 0 places ≡ first (asked u w Free) 0 places = λ i. first (λ k. answers Free (same k i)) 0 places in
    rw (a, b)

-- ---- a place is held that the new mapping may not stand beside
unfoldable pub clashed : List ℕ → ℕ → Mapping → Bool
clashed t w n = any (λ (i : ℕ). clashing n (place t w i)) 0 places

-- the search for such a place, by what its test said
module _ (t : List ℕ) (w : ℕ) (n : Mapping) (said : ℕ → Bool → Type 0) (tells : (j : ℕ) (b : Bool) → said j b → b ≡ clashing n (raw t w j)) where
  clash_said : (j : ℕ) (b : Bool) → j < reach t w → said j b → clashing n (place t w j) ≡ b
  clash_said j b h s = place_asked t w j (clashing n) (free_clashes n) h ∙ sym (tells j b s)

  pub clash_found : (r : Option ℕ) → Lowest said (reach t w) r → is_some r ≡ clashed t w n
  unfolding clashed
  clash_found (Some i) l = sym (any_by (λ (j : ℕ). clashing n (place t w j)) 0 places i (clash_said i true l.ends.0 l.ends.1.0) (omega arith) (omega (arith, l.ends.0, reach_most t w)))
  clash_found None l =
      sym (any_if_not (λ (j : ℕ). clashing n (place t w j)) 0 places
      (λ j h m. either (ltb j (reach t w)) (λ y. let k = ltb-true j (reach t w) y in clash_said j false k (l.ends j h k))
      (λ z. rw (place_out t w j (ltb-false j (reach t w) z)) (blank_clashes n))))

-- ---- the last that is held with exactly this start and size
module _ (t : List ℕ) (w v s : ℕ) where
  -- no held mapping has the size 0
  empty_exact : s ≡ 0 → (m : Mapping) → answers (Exact v s) m ≡ false
  unfolding answers asks asks_free exact
  empty_exact e m = either (is_free m) (λ y. pick_yes (is_free m) _ _ y) (λ n. pick_no (is_free m) _ _ n ∙ right_false (eqb m.virt v) (eqb m.size s) (rw e n))

  pub latest_empty : s ≡ 0 → 0 ≡ latest t w v s
  unfolding latest upto
  latest_empty e = sym (upto_past (asked t w (Exact v s)) 0 places (λ j l. empty_exact e (place t w j)))

  module _ (some : s ≡ 0 → ⊥) where
    -- an exact mapping of such a size is held
    exact_answers : (m : Mapping) → answers (Exact v s) m ≡ exact v s m
    unfolding answers asks asks_free exact
    exact_answers m =
        either (is_free m)
        (λ y. pick_yes (is_free m) _ _ y ∙ sym (right_false (eqb m.virt v) (eqb m.size s) (rw (eqb-true m.size 0 y) (ne_eqb 0 s (λ q. some (sym q))))))
        (λ z. pick_no (is_free m) _ _ z)

    exact_asked : (j : ℕ) → j < reach t w → asked t w (Exact v s) j ≡ exact v s (raw t w j)
    exact_asked j h = place_asked t w j (answers (Exact v s)) (free_answers (Exact v s)) h ∙ exact_answers (raw t w j)

    latest_reach : latest t w v s ≡ upto (asked t w (Exact v s)) (reach t w)
    unfolding latest asks_free
    latest_reach =
        let e = reach t w in
        let z : places - e + e ≡ places = omega (arith, reach_most t w) in
        let b = upto_past (asked t w (Exact v s)) e (places - e) (λ j h. rw (place_out t w j h) (blank_answers (Exact v s))) in
        rw z at b

    pub latest_found : (said : ℕ → Bool → Type 0) → ((j : ℕ) (b : Bool) → said j b → b ≡ exact v s (raw t w j)) → (r : ℕ) → ToLast said (reach t w) r → r ≡ latest t w v s
    latest_found said tells r l = to_last (asked t w (Exact v s)) said (reach t w) (λ j b h k. tells j b k ∙ sym (exact_asked j h)) r l ∙ sym latest_reach

-- ---- what it is
module _ (t : List ℕ) (w v s : ℕ) where
  pub latest_most : latest t w v s ≤ places
  unfolding latest
  latest_most = upto_most (asked t w (Exact v s)) places

  pub latest_answers : 0 < latest t w v s → asked t w (Exact v s) (latest t w v s - 1) ≡ true
  unfolding latest
  latest_answers h = upto_passes (asked t w (Exact v s)) places h

  pub latest_fails : (j : ℕ) → latest t w v s ≤ j → j < places → asked t w (Exact v s) j ≡ false
  unfolding latest
  latest_fails j h l = upto_fails (asked t w (Exact v s)) places j h l

pub latest_same : (t u : List ℕ) (w v s : ℕ) → ((i : ℕ) → place t w i ≡ place u w i) → latest t w v s ≡ latest u w v s
unfolding latest
latest_same t u w v s same = upto_same (asked t w (Exact v s)) (asked u w (Exact v s)) places (λ j l. rw (same j))
