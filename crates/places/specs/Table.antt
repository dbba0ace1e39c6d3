-- The table: four numbers for each of sixteen places of four worlds, and behind them each world's reach: no place from there on is held.
-- Its layout is known in this file alone: the laws say the rest.
use Rattle.std.specs.Prelude.{◌≡◌, Bool, true, ◌&&◌, List, ℕ, zero, suc, ◌+◌, ◌-◌, ◌*◌, ◌≤◌, ◌<◌, ltb, set, replicate}
use Rattle.std.proofs.Math.Path.{refl, sym}
use Rattle.std.proofs.Common.{◌∙◌}
use Rattle.std.proofs.Math.Bool.{false, not}
use native.Mathlib.Omega.{arith}
use Rattle.std.proofs.Math.Dec.{leb, eqb}
use Rattle.std.proofs.Math.ListN.{length, get_or, length-set}
use Rattle.std.proofs.lemmas.List.{length-replicate, get_or-replicate}
use Rattle.std.proofs.Math.Seq.{get_or-set_same, get_or-set_other}
use borrow.Author.Tests.{lt-ltb, le-ltb, ltb-true, ltb-false, le-leb, lt-leb, leb-true, eq-eqb, ne_eqb, eqb-true, eqb-false}
use Rattle.rules.specs.Choice.{pick, picked, passed, pick_yes, pick_no, either, chosen, both_true, left_true, right_true, left_false, right_false, not_true, not_false, yes_or_no}
use Rattle.rules.specs.Sizes.{worlds, most_mappings}
use Rattle.ranges.specs.Question.{is_free}
use Rattle.ranges.specs.declared.Mapping.{Mapping}

-- how many places each world has, how many numbers they take, and how many the table has
abbrev pub places : ℕ
places = most_mappings

abbrev fours : ℕ
fours = worlds * places * 4

abbrev numbers : ℕ
numbers = fours + worlds

-- where the place's numbers begin
abbrev at : ℕ → ℕ → ℕ
at w i = (w * places + i) * 4

-- the four numbers from a on, read as a mapping, and written
abbrev four : List ℕ → ℕ → Mapping
four t a = record { virt = get_or t a 0; phys = get_or t (a + 1) 0; size = get_or t (a + 2) 0; attr = get_or t (a + 3) 0 }

abbrev put : List ℕ → ℕ → Mapping → List ℕ
put t a m = set (set (set (set t a m.virt) (a + 1) m.phys) (a + 2) m.size) (a + 3) m.attr

abbrev pub blank : Mapping
blank = record { virt = 0; phys = 0; size = 0; attr = 0 }

-- sixteen at most
unfoldable capped : ℕ → ℕ
capped n = pick (ltb places n) places n

-- a mapping of size 0 is none
unfoldable pub kept : Mapping → Mapping
kept m = pick (is_free m) blank m

-- n numbers without those at their end that do not pass: behind the last that does, or 0
unfoldable pub upto : (ℕ → Bool) → ℕ → ℕ
upto p zero = 0
upto p (suc k) = pick (p k) (suc k) (upto p k)

-- n places without the free ones at their end
abbrev pub behind : (ℕ → Mapping) → ℕ → ℕ
behind f n = upto (λ (k : ℕ). not (is_free (f k))) n

-- the reach of a world, with a place held that is within it or the next
unfoldable pub grown : ℕ → ℕ → ℕ
grown n i = pick (eqb i n) (i + 1) n

-- ---- shut: no other file opens these
-- every place is free
pub unmapped : List ℕ
unmapped = replicate numbers 0

-- the table has all its numbers
pub WholeLists : List ℕ → Type 0
WholeLists t = length t ≡ numbers

-- no place of the world from there on is held; 0 where there is no such world
pub reach : List ℕ → ℕ → ℕ
reach t w = pick (ltb w worlds) (capped (get_or t (fours + w) 0)) 0

-- the numbers of a place as they stand, and others in their stead
pub raw : List ℕ → ℕ → ℕ → Mapping
raw t w i = four t (at w i)

pub written : List ℕ → ℕ → ℕ → Mapping → List ℕ
written t w i m = put t (at w i) m

-- another reach of the world
pub resized : List ℕ → ℕ → ℕ → List ℕ
resized t w n = set t (fours + w) n

-- the mapping at a place of the world; a blank one where nothing is held
pub place : List ℕ → ℕ → ℕ → Mapping
place t w i = pick (ltb i (reach t w)) (kept (raw t w i)) blank

-- the mapping put at a place of the world that is within its reach or the next; else nothing changes
pub stored : List ℕ → ℕ → ℕ → Mapping → List ℕ
stored t w i m = pick (ltb w worlds && (ltb i places && leb i (reach t w))) (resized (written t w i m) w (grown (reach t w) i)) t

-- a place of the world made free, and its reach no farther than the last that is held; nothing changes where it is not within the reach
pub freed : List ℕ → ℕ → ℕ → List ℕ
freed t w i = pick (ltb i (reach t w)) (resized (written t w i blank) w (behind (raw (written t w i blank) w) (reach t w))) t

-- ---- the reach
capped_most : (n : ℕ) → capped n ≤ places
unfolding capped
capped_most n = chosen (λ (k : ℕ). k ≤ places) (ltb places n) places n (λ y. omega arith) (λ z. ltb-false places n z)

capped_is : (n : ℕ) → n ≤ places → capped n ≡ n
unfolding capped
capped_is n h = pick_no (ltb places n) places n (le-ltb places n h)

module _ (t : List ℕ) (w : ℕ) where
  pub reach_most : reach t w ≤ places
  unfolding reach
  reach_most = chosen (λ (k : ℕ). k ≤ places) (ltb w worlds) _ 0 (λ y. capped_most (get_or t (fours + w) 0)) (λ z. omega arith)

  pub reach_world : (i : ℕ) → i < reach t w → w < worlds
  unfolding reach
  reach_world i h = either (ltb w worlds) (ltb-true w worlds) (λ z. let e = pick_no (ltb w worlds) (capped (get_or t (fours + w) 0)) 0 z in absurd (omega arith))

  -- how the code meets it
  pub reach_no_world : worlds ≤ w → 0 ≡ reach t w
  unfolding reach
  reach_no_world h = passed _ _ _ _ (le-ltb w worlds h) refl

  pub reach_capped : w < worlds → places < get_or t (fours + w) 0 → places ≡ reach t w
  unfolding reach capped
  reach_capped h l = picked _ _ _ _ (lt-ltb w worlds h) (picked _ _ _ _ (lt-ltb places _ l) refl)

  pub reach_is : w < worlds → get_or t (fours + w) 0 ≤ places → get_or t (fours + w) 0 ≡ reach t w
  unfolding reach capped
  reach_is h l = picked _ _ _ _ (lt-ltb w worlds h) (passed _ _ _ _ (le-ltb places _ l) refl)

pub ruleset reach_laws = (reach_no_world, reach_capped, reach_is)

-- ---- a mapping of size 0 is none
kept_free : (m : Mapping) → is_free m ≡ true → kept m ≡ blank
unfolding kept
kept_free m e = pick_yes (is_free m) blank m e

kept_held : (m : Mapping) → is_free m ≡ false → kept m ≡ m
unfolding kept
kept_held m e = pick_no (is_free m) blank m e

is_kept : (m : Mapping) → is_free (kept m) ≡ is_free m
is_kept m = either (is_free m) (λ y. rw (kept_free m y) (sym y)) (λ n. rw (kept_held m n))

-- ---- a place within the reach, and past it
module _ (t : List ℕ) (w i : ℕ) where
  place_in : i < reach t w → place t w i ≡ kept (raw t w i)
  unfolding place
  place_in h = pick_yes (ltb i (reach t w)) _ _ (lt-ltb i (reach t w) h)

  pub place_out : reach t w ≤ i → place t w i ≡ blank
  unfolding place
  place_out h = pick_no (ltb i (reach t w)) _ _ (le-ltb i (reach t w) h)

  pub place_free : i < reach t w → is_free (place t w i) ≡ is_free (raw t w i)
  place_free h = rw (place_in h) (is_kept (raw t w i))

  -- what is asked of a mapping and cannot tell a free one from a blank one
  pub place_asked : {A : Type 0} (f : Mapping → A) → ((m : Mapping) → is_free m ≡ true → f m ≡ f blank) → i < reach t w → f (place t w i) ≡ f (raw t w i)
  place_asked f alike h =
      rw (place_in h) (either (is_free (raw t w i)) (λ y. rw (kept_free (raw t w i) y) (sym (alike (raw t w i) y))) (λ n. rw (kept_held (raw t w i) n)))

  -- only a place within the reach is held
  pub held_in : is_free (place t w i) ≡ false → i < reach t w
  held_in e = either (ltb i (reach t w)) (ltb-true i (reach t w)) (λ n. absurd (yes_or_no true refl (rw (place_out (ltb-false i (reach t w) n)) at e)))

-- ---- how the code meets these
pub fresh_is : replicate numbers 0 ≡ unmapped
unfolding unmapped
fresh_is = refl

module _ (t : List ℕ) (w : ℕ) where
  pub raw_is : (i : ℕ) → four t (at w i) ≡ raw t w i
  unfolding raw
  raw_is i = refl

  pub written_is : (i : ℕ) (m : Mapping) → put t (at w i) m ≡ written t w i m
  unfolding written
  written_is i m = refl

  pub resized_is : (n : ℕ) → set t (fours + w) n ≡ resized t w n
  unfolding resized
  resized_is n = refl

pub ruleset layout_laws = (fresh_is, raw_is, written_is, resized_is)

module _ (t : List ℕ) (w i n : ℕ) (e : n ≡ reach t w) where
  pub in_world : i < n → w < worlds
  in_world h = reach_world t w i (omega arith)

  pub in_places : i < n → i < places
  in_places h = omega (arith, reach_most t w)

  pub place_past : (r : Mapping) → r ≡ blank → n ≤ i → r ≡ place t w i
  place_past r b h = b ∙ sym (place_out t w i (omega arith))

  module _ (m : Mapping) (f : m ≡ raw t w i) (h : i < n) where
    pub place_none : (r : Mapping) → m.size ≡ 0 → r ≡ blank → r ≡ place t w i
    place_none r z b = b ∙ sym (place_in t w i (omega arith) ∙ kept_free (raw t w i) (rw (← f) (eq-eqb _ _ z)))

    pub place_some : (m.size ≡ 0 → ⊥) → m ≡ place t w i
    place_some z = f ∙ sym (place_in t w i (omega arith) ∙ kept_held (raw t w i) (rw (← f) (ne_eqb _ _ z)))

pub ruleset place_laws = (in_world, in_places, place_past, place_none, place_some)

module _ (t : List ℕ) (w n : ℕ) (e : n ≡ reach t w) where
  pub reach_few : n ≤ places
  reach_few = omega (arith, reach_most t w)

  pub some_world : (n ≡ 0 → ⊥) → w < worlds
  some_world d = let h : 0 < n = omega arith in reach_world t w 0 (rw e at h)

pub ruleset reach_bounds = (in_world, in_places, reach_few, some_world)

module _ (n i : ℕ) where
  pub grown_next : i ≡ n → i + 1 ≡ grown n i
  unfolding grown
  grown_next e = picked _ _ _ _ (eq-eqb i n e) refl

  pub grown_within : (i ≡ n → ⊥) → n ≡ grown n i
  unfolding grown
  grown_within e = passed _ _ _ _ (ne_eqb i n e) refl

pub ruleset growths = (grown_next, grown_within)

module _ (t : List ℕ) (w i : ℕ) where
  module _ (m : Mapping) where
    pub stored_no_world : worlds ≤ w → t ≡ stored t w i m
    unfolding stored
    stored_no_world h = passed _ _ _ _ (left_false (ltb w worlds) _ (le-ltb w worlds h)) refl

    pub stored_no_place : places ≤ i → t ≡ stored t w i m
    unfolding stored
    stored_no_place h = passed _ _ _ _ (right_false (ltb w worlds) _ (left_false (ltb i places) _ (le-ltb i places h))) refl

    pub stored_past : (n : ℕ) → n ≡ reach t w → n < i → t ≡ stored t w i m
    unfolding stored
    stored_past n e h = passed _ _ _ _ (right_false (ltb w worlds) _ (right_false (ltb i places) _ (lt-leb i (reach t w) (omega arith)))) refl

    stored_if : w < worlds → i < places → i ≤ reach t w → stored t w i m ≡ resized (written t w i m) w (grown (reach t w) i)
    unfolding stored
    stored_if h l k = pick_yes _ _ _ (both_true _ _ (lt-ltb w worlds h) (both_true _ _ (lt-ltb i places l) (le-leb i (reach t w) k)))

    pub stored_here : (n k : ℕ) (u v : List ℕ) → n ≡ reach t w → w < worlds → i < places → i ≤ n → u ≡ written t w i m → k ≡ grown n i → v ≡ resized u w k → v ≡ stored t w i m
    stored_here n k u v e h l b f g r = r ∙ sym (stored_if h l (omega arith) ∙ rw (f, g, e))

  freed_if : i < reach t w → freed t w i ≡ resized (written t w i blank) w (behind (raw (written t w i blank) w) (reach t w))
  unfolding freed
  freed_if h = pick_yes _ _ _ (lt-ltb i (reach t w) h)

  pub freed_not : reach t w ≤ i → freed t w i ≡ t
  unfolding freed
  freed_not h = pick_no _ _ _ (le-ltb i (reach t w) h)

  pub freed_past : (n : ℕ) → n ≡ reach t w → n ≤ i → t ≡ freed t w i
  freed_past n e h = sym (freed_not (omega arith))

  pub freed_here : (n k : ℕ) (m : Mapping) (u v : List ℕ) → n ≡ reach t w → i < n → m ≡ blank → u ≡ written t w i m → k ≡ behind (raw u w) n → v ≡ resized u w k → v ≡ freed t w i
  freed_here n k m u v e h b f g r = r ∙ sym (freed_if (omega arith) ∙ rw (g, f, b, e))

pub ruleset store_laws = (stored_no_world, stored_no_place, stored_past, stored_here, freed_past, freed_here)

-- ---- the last that passes
module _ (p : ℕ → Bool) where
  pub upto_none : upto p 0 ≡ 0
  unfolding upto
  upto_none = refl

  pub upto_here : (k : ℕ) → p k ≡ true → upto p (suc k) ≡ suc k
  unfolding upto
  upto_here k e = pick_yes (p k) (suc k) (upto p k) e

  pub upto_below : (k : ℕ) → p k ≡ false → upto p (suc k) ≡ upto p k
  unfolding upto
  upto_below k e = pick_no (p k) (suc k) (upto p k) e

  pub upto_most : (n : ℕ) → upto p n ≤ n
  upto_most zero = rw upto_none (omega arith)
  upto_most (suc k) = either (p k) (λ y. rw (upto_here k y) (omega arith)) (λ z. rw (upto_below k z) (omega (arith, upto_most k)))

  -- those behind it do not pass, and it does
  pub upto_fails : (n j : ℕ) → upto p n ≤ j → j < n → p j ≡ false
  upto_fails zero j h l = absurd (omega arith)
  upto_fails (suc k) j h l =
      either (p k) (λ y. let e = upto_here k y in absurd (omega arith))
      (λ z. either (eqb j k) (λ q. rw (eqb-true j k q) z) (λ q. let d = eqb-false j k q in upto_fails k j (rw (upto_below k z) at h) (omega arith)))

  pub upto_passes : (n : ℕ) → 0 < upto p n → p (upto p n - 1) ≡ true
  upto_passes zero h = let e = upto_none in absurd (omega arith)
  upto_passes (suc k) h =
      either (p k) (λ y. let e = upto_here k y in let z : suc k - 1 ≡ k = omega arith in rw (e, z) y)
      (λ z. let e = upto_below k z in rw e (upto_passes k (rw e at h)))

  -- those from n on do not pass
  pub upto_past : (n k : ℕ) → ((j : ℕ) → n ≤ j → p j ≡ false) → upto p (k + n) ≡ upto p n
  upto_past n zero h = let z : 0 + n ≡ n = omega arith in rw z
  upto_past n (suc k) h = let z : suc k + n ≡ suc (k + n) = omega arith in rw z (upto_below (k + n) (h (k + n) (omega arith)) ∙ upto_past n k h)

pub upto_same : (p q : ℕ → Bool) (n : ℕ) → ((j : ℕ) → j < n → p j ≡ q j) → upto p n ≡ upto q n
unfolding upto
upto_same p q zero h = refl
upto_same p q (suc k) h = rw (h k (omega arith), upto_same p q k (λ j l. h j (omega arith)))

-- ---- the free ones at the end
module _ (f : ℕ → Mapping) where
  pub behind_free : (n j : ℕ) → behind f n ≤ j → j < n → is_free (f j) ≡ true
  behind_free n j h l = either (is_free (f j)) (λ y. y) (λ z. absurd (yes_or_no _ (not_true (is_free (f j)) z) (upto_fails (λ (k : ℕ). not (is_free (f k))) n j h l)))

  pub behind_last : (k : ℕ) → is_free (f k) ≡ true → behind f (suc k) ≡ behind f k
  behind_last k e = upto_below (λ (k : ℕ). not (is_free (f k))) k (not_false (is_free (f k)) e)

  pub behind_held : (k : ℕ) → is_free (f k) ≡ false → behind f (suc k) ≡ suc k
  behind_held k e = upto_here (λ (k : ℕ). not (is_free (f k))) k (not_true (is_free (f k)) e)

-- ---- what stands at a place after it was written
module _ (t : List ℕ) (a : ℕ) (m : Mapping) where
  put_length : length (put t a m) ≡ length t
  put_length = simp length-set

  put_same : a + 3 < length t → four (put t a m) a ≡ m
  put_same h =
      let d1 : a ≡ a + 3 → ⊥ = λ e. omega arith in
      let d2 : a ≡ a + 2 → ⊥ = λ e. omega arith in
      let d3 : a ≡ a + 1 → ⊥ = λ e. omega arith in
      let d4 : a + 1 ≡ a + 3 → ⊥ = λ e. omega arith in
      let d5 : a + 1 ≡ a + 2 → ⊥ = λ e. omega arith in
      let d6 : a + 2 ≡ a + 3 → ⊥ = λ e. omega arith in
      let l0 : a < length t = omega arith in
      let l1 : a + 1 < length (set t a m.virt) = simp length-set (omega arith) in
      let l2 : a + 2 < length (set (set t a m.virt) (a + 1) m.phys) = simp length-set (omega arith) in
      let l3 : a + 3 < length (set (set (set t a m.virt) (a + 1) m.phys) (a + 2) m.size) = simp length-set (omega arith) in
      simp (get_or-set_other, get_or-set_same)

  put_past : (j : ℕ) → (a ≤ j → j < a + 4 → ⊥) → get_or (put t a m) j 0 ≡ get_or t j 0
  put_past j d =
      let d0 : j ≡ a → ⊥ = λ e. d (omega arith) (omega arith) in
      let d1 : j ≡ a + 1 → ⊥ = λ e. d (omega arith) (omega arith) in
      let d2 : j ≡ a + 2 → ⊥ = λ e. d (omega arith) (omega arith) in
      let d3 : j ≡ a + 3 → ⊥ = λ e. d (omega arith) (omega arith) in
      simp get_or-set_other

  put_other : (b : ℕ) → (b < a + 4 → a < b + 4 → ⊥) → four (put t a m) b ≡ four t b
  put_other b d =
      rw (
        put_past b (λ h l. d (omega arith) (omega arith)),
        put_past (b + 1) (λ h l. d (omega arith) (omega arith)),
        put_past (b + 2) (λ h l. d (omega arith) (omega arith)),
        put_past (b + 3) (λ h l. d (omega arith) (omega arith)),
      )

-- another reach leaves the places
set_four : (t : List ℕ) (k n b : ℕ) → b + 3 < k → four (set t k n) b ≡ four t b
set_four t k n b h =
    let d0 : b ≡ k → ⊥ = λ e. omega arith in
    let d1 : b + 1 ≡ k → ⊥ = λ e. omega arith in
    let d2 : b + 2 ≡ k → ⊥ = λ e. omega arith in
    let d3 : b + 3 ≡ k → ⊥ = λ e. omega arith in
    simp get_or-set_other

module _ (t : List ℕ) (w i : ℕ) (m : Mapping) (h : w < worlds) (l : i < places) where
  pub written_same : WholeLists t → raw (written t w i m) w i ≡ m
  unfolding WholeLists raw written
  written_same e = put_same t (at w i) m (omega arith)

  written_other : (u j : ℕ) → u < worlds → j < places → (u ≡ w → j ≡ i → ⊥) → raw (written t w i m) u j ≡ raw t u j
  unfolding raw written
  written_other u j a b d = put_other t (at w i) m (at u j) (λ p q. let z : u ≡ w = omega arith in d z (omega arith))

  -- the place written, and another reach
  module _ (n : ℕ) where
    abbrev changed : List ℕ
    changed = resized (written t w i m) w n

    changed_whole : WholeLists t → WholeLists changed
    unfolding WholeLists resized written
    changed_whole e = length-set (put t (at w i) m) (fours + w) n ∙ put_length t (at w i) m ∙ e

    changed_raw : (u j : ℕ) → u < worlds → j < places → raw changed u j ≡ raw (written t w i m) u j
    unfolding raw resized
    changed_raw u j a b = set_four (written t w i m) (fours + w) n (at u j) (omega arith)

    changed_reach : WholeLists t → n ≤ places → reach changed w ≡ n
    unfolding WholeLists reach resized written
    changed_reach e b =
        let k : fours + w < length (put t (at w i) m) = rw (put_length t (at w i) m) (omega arith) in
        let z : get_or (set (put t (at w i) m) (fours + w) n) (fours + w) 0 ≡ n = get_or-set_same (put t (at w i) m) (fours + w) n 0 k in
        pick_yes (ltb w worlds) _ 0 (lt-ltb w worlds h) ∙ rw z (capped_is n b)

    elsewhere_reach : (u : ℕ) → (u ≡ w → ⊥) → reach changed u ≡ reach t u
    unfolding reach resized written
    elsewhere_reach u d =
        let k : fours + u ≡ fours + w → ⊥ = λ e. d (omega arith) in
        let z : get_or (set (put t (at w i) m) (fours + w) n) (fours + u) 0 ≡ get_or t (fours + u) 0
        = get_or-set_other (put t (at w i) m) (fours + w) (fours + u) n 0 k ∙ put_past t (at w i) m (fours + u) (λ p q. omega arith) in
        rw z

    changed_elsewhere : (u j : ℕ) → (u ≡ w → ⊥) → place changed u j ≡ place t u j
    unfolding place
    changed_elsewhere u j d =
        rw (elsewhere_reach u d)
        (either (ltb j (reach t u))
        (λ y. let a = ltb-true j (reach t u) y in
        let b = reach_world t u j a in
        let c : j < places = omega (arith, reach_most t u) in
        rw (changed_raw u j b c, written_other u j b c (λ e f. d e)))
        (λ z. pick_no _ _ _ z ∙ sym (pick_no _ _ _ z)))

-- ---- a mapping stored
module _ (n i : ℕ) where
  grown_more : i ≤ n → i < grown n i
  unfolding grown
  grown_more h = chosen (λ (k : ℕ). i < k) (eqb i n) (i + 1) n (λ y. omega arith) (λ z. let d : i ≡ n → ⊥ = λ e. unequal z e in omega arith)
    where
      unequal : eqb i n ≡ false → i ≡ n → ⊥
      unequal z e = yes_or_no _ (eq-eqb i n e) z

  grown_least : n ≤ grown n i
  unfolding grown
  grown_least = chosen (λ (k : ℕ). n ≤ k) (eqb i n) (i + 1) n (λ y. let e = eqb-true i n y in omega arith) (λ z. omega arith)

  grown_most : i < places → n ≤ places → grown n i ≤ places
  unfolding grown
  grown_most l h = chosen (λ (k : ℕ). k ≤ places) (eqb i n) (i + 1) n (λ y. omega arith) (λ z. h)

  grown_past : (j : ℕ) → n ≤ j → (j ≡ i → ⊥) → grown n i ≤ j
  unfolding grown
  grown_past j h d = chosen (λ (k : ℕ). k ≤ j) (eqb i n) (i + 1) n (λ y. let e = eqb-true i n y in omega arith) (λ z. h)

module _ (t : List ℕ) (w i : ℕ) (m : Mapping) where
  stored_cases : (P : List ℕ → Type 0) → (w < worlds → i < places → i ≤ reach t w → P (resized (written t w i m) w (grown (reach t w) i))) → P t → P (stored t w i m)
  unfolding stored
  stored_cases P f p =
      chosen P (ltb w worlds && (ltb i places && leb i (reach t w))) _ t
      (λ y. let z = right_true (ltb w worlds) (ltb i places && leb i (reach t w)) y in
      f (ltb-true w worlds (left_true (ltb w worlds) (ltb i places && leb i (reach t w)) y)) (ltb-true i places (left_true (ltb i places) (leb i (reach t w)) z))
      (leb-true i (reach t w) (right_true (ltb i places) (leb i (reach t w)) z)))
      (λ n. p)

  pub stored_whole : WholeLists t → WholeLists (stored t w i m)
  stored_whole e = stored_cases WholeLists (λ h l k. changed_whole t w i m h l (grown (reach t w) i) e) e

  pub stored_elsewhere : (u j : ℕ) → (u ≡ w → ⊥) → place (stored t w i m) u j ≡ place t u j
  stored_elsewhere u j d = stored_cases (λ (s : List ℕ). place s u j ≡ place t u j) (λ h l k. changed_elsewhere t w i m h l (grown (reach t w) i) u j d) refl

  pub stored_at : WholeLists t → w < worlds → i < places → i ≤ reach t w → place (stored t w i m) w i ≡ kept m
  stored_at e h l k =
      let n = grown (reach t w) i in
      let r = changed_reach t w i m h l n e (grown_most (reach t w) i l (reach_most t w)) in
      let z : raw (resized (written t w i m) w n) w i ≡ m = changed_raw t w i m h l n w i h l ∙ written_same t w i m h l e in
      rw (stored_if t w i m h l k, place_in (resized (written t w i m) w n) w i (rw r (grown_more (reach t w) i k)), z)

  pub stored_same : WholeLists t → w < worlds → i < places → i ≤ reach t w → (m.size ≡ 0 → ⊥) → place (stored t w i m) w i ≡ m
  stored_same e h l k d = stored_at e h l k ∙ kept_held m (ne_eqb m.size 0 d)

  pub stored_within : WholeLists t → (j : ℕ) → (j ≡ i → ⊥) → place (stored t w i m) w j ≡ place t w j
  stored_within e j d =
      stored_cases (λ (s : List ℕ). place s w j ≡ place t w j)
      (λ h l k. let n = grown (reach t w) i in
      let r = changed_reach t w i m h l n e (grown_most (reach t w) i l (reach_most t w)) in
      either (ltb j (reach t w))
      (λ y. let a = ltb-true j (reach t w) y in
      let b : j < places = omega (arith, reach_most t w) in
      let z : raw (resized (written t w i m) w n) w j ≡ raw t w j = changed_raw t w i m h l n w j h b ∙ written_other t w i m h l w j h b (λ _ f. d f) in
      rw (place_in (resized (written t w i m) w n) w j (rw r (omega (arith, grown_least (reach t w) i))), place_in t w j a, z))
      (λ z. let a = ltb-false j (reach t w) z in
      place_out (resized (written t w i m) w n) w j (rw r (grown_past (reach t w) i j a d)) ∙ sym (place_out t w j a)))
      refl

-- ---- a place made free
module _ (t : List ℕ) (w i : ℕ) where
  -- what stands at the places then, and the reach
  abbrev cleared : List ℕ
  cleared = written t w i blank

  abbrev left : ℕ
  left = behind (raw cleared w) (reach t w)

  left_most : left ≤ reach t w
  left_most = upto_most (λ (k : ℕ). not (is_free (raw cleared w k))) (reach t w)

  freed_cases : (P : List ℕ → Type 0) → (i < reach t w → P (resized cleared w left)) → (reach t w ≤ i → P t) → P (freed t w i)
  unfolding freed
  freed_cases P f p = chosen P (ltb i (reach t w)) _ t (λ y. f (ltb-true i (reach t w) y)) (λ n. p (ltb-false i (reach t w) n))

  module _ (k : i < reach t w) where
    in_table : i < places
    in_table = omega (arith, reach_most t w)

    freed_reach : WholeLists t → reach (resized cleared w left) w ≡ left
    freed_reach e = changed_reach t w i blank (reach_world t w i k) in_table left e (omega (arith, left_most, reach_most t w))

  pub freed_whole : WholeLists t → WholeLists (freed t w i)
  freed_whole e = freed_cases WholeLists (λ k. changed_whole t w i blank (reach_world t w i k) (in_table k) left e) (λ k. e)

  pub freed_elsewhere : (u j : ℕ) → (u ≡ w → ⊥) → place (freed t w i) u j ≡ place t u j
  freed_elsewhere u j d =
      freed_cases (λ (s : List ℕ). place s u j ≡ place t u j) (λ k. changed_elsewhere t w i blank (reach_world t w i k) (in_table k) left u j d) (λ k. refl)

  pub freed_same : WholeLists t → place (freed t w i) w i ≡ blank
  freed_same e =
      freed_cases (λ (s : List ℕ). place s w i ≡ blank)
      (λ k. let h = reach_world t w i k in
      let l = in_table k in
      let r = freed_reach k e in
      let z : raw (resized cleared w left) w i ≡ blank = changed_raw t w i blank h l left w i h l ∙ written_same t w i blank h l e in
      either (ltb i left)
      (λ y. rw (place_in (resized cleared w left) w i (rw r (ltb-true i left y)), z) (kept_free blank refl))
      (λ n. place_out (resized cleared w left) w i (rw r (ltb-false i left n))))
      (λ k. place_out t w i k)

  pub freed_within : WholeLists t → (j : ℕ) → (j ≡ i → ⊥) → place (freed t w i) w j ≡ place t w j
  freed_within e j d =
      freed_cases (λ (s : List ℕ). place s w j ≡ place t w j)
      (λ k. let h = reach_world t w i k in
      let l = in_table k in
      let r = freed_reach k e in
      either (ltb j (reach t w))
      (λ y. let a = ltb-true j (reach t w) y in
      let b : j < places = omega (arith, reach_most t w) in
      let c : raw cleared w j ≡ raw t w j = written_other t w i blank h l w j h b (λ _ f. d f) in
      let z : raw (resized cleared w left) w j ≡ raw t w j = changed_raw t w i blank h l left w j h b ∙ c in
      either (ltb j left)
      (λ v. rw (place_in (resized cleared w left) w j (rw r (ltb-true j left v)), place_in t w j a, z))
      (λ n. let q = ltb-false j left n in
      let s : is_free (raw t w j) ≡ true = (rw c at (behind_free (raw cleared w) (reach t w) j q a)) in
      place_out (resized cleared w left) w j (rw r q) ∙ sym (place_in t w j a ∙ kept_free (raw t w j) s)))
      (λ n. let a = ltb-false j (reach t w) n in
      place_out (resized cleared w left) w j (rw r (omega (arith, left_most))) ∙ sym (place_out t w j a)))
      (λ k. refl)

-- ---- every place is free at first
pub unmapped_whole : WholeLists unmapped
unfolding WholeLists unmapped
unmapped_whole = length-replicate {A = ℕ} numbers 0

unmapped_reach : (w : ℕ) → reach unmapped w ≡ 0
unfolding unmapped reach
unmapped_reach w =
    chosen (λ (k : ℕ). k ≡ 0) (ltb w worlds) _ 0
    (λ y. let h = ltb-true w worlds y in rw (get_or-replicate {A = ℕ} numbers (fours + w) 0 0 (omega arith)) (capped_is 0 (omega arith))) (λ z. refl)

pub unmapped_blank : (w i : ℕ) → place unmapped w i ≡ blank
unmapped_blank w i = place_out unmapped w i (omega (arith, unmapped_reach w))

-- ---- how far a world's mappings go, by its places: none of them from there on is held, and the one before is
unfoldable pub used : List ℕ → ℕ → ℕ
used t w = behind (place t w) places

module _ (t : List ℕ) (w : ℕ) where
  pub used_is : behind (raw t w) (reach t w) ≡ used t w
  unfolding used
  used_is =
      let n = reach t w in
      let z : places - n + n ≡ places = omega (arith, reach_most t w) in
      let a = upto_same (λ (k : ℕ). not (is_free (place t w k))) (λ (k : ℕ). not (is_free (raw t w k))) n (λ j h. rw (place_free t w j h)) in
      let b = upto_past (λ (k : ℕ). not (is_free (place t w k))) n (places - n) (λ j h. rw (place_out t w j h)) in
      sym a ∙ sym (rw z at b)

  pub used_none : (n : ℕ) → n ≡ reach t w → n ≡ 0 → 0 ≡ used t w
  unfolding upto
  used_none n e h = let z : reach t w ≡ 0 = sym e ∙ h in (rw z at used_is)

  pub used_by : (n k : ℕ) → n ≡ reach t w → k ≡ behind (raw t w) n → k ≡ used t w
  used_by n k e h = h ∙ rw e used_is

  pub used_reach : used t w ≤ reach t w
  used_reach = rw (← used_is) (upto_most (λ (k : ℕ). not (is_free (raw t w k))) (reach t w))

  pub used_free : (j : ℕ) → used t w ≤ j → j < places → is_free (place t w j) ≡ true
  unfolding used
  used_free j h l = behind_free (place t w) places j h l

pub used_same : (t u : List ℕ) (w : ℕ) → ((i : ℕ) → place t w i ≡ place u w i) → used t w ≡ used u w
unfolding used
used_same t u w same = upto_same (λ (k : ℕ). not (is_free (place t w k))) (λ (k : ℕ). not (is_free (place u w k))) places (λ j l. rw (same j))

pub ruleset uses = (used_none, used_by)
