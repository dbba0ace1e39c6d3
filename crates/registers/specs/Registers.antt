-- Nine saved numbers for each core and world, in one table. Only this file knows where in the table a number stands.
use Rattle.std.specs.Prelude.{◌≡◌, false, ◌&&◌, List, [], ◌∷◌, ltb, eqb, length, get_or, set, take, drop, replicate, None, Option, Some}
use Rattle.std.proofs.Math.Path.{refl, sym}
use Rattle.std.proofs.Common.{◌∙◌, ⊎_elim, eq-or-lt_of_le, length-set, drop_of_length-le, get_or-set_same, get_or-set_other, ext_get_or, lt-ltb, le-ltb, ltb-true, ltb-false, eqb-true, eq-eqb}
use Prim.Native.Nat.{ℕ, zero, suc, ◌+◌, ◌-◌, ◌*◌, ◌≤◌, ◌<◌}
use native.Mathlib.Omega.{arith}
use Rattle.std.proofs.Math.Numerals.{add-one}
use Rattle.std.proofs.Math.ListN.{length-take, get_or-eq_default}
use Rattle.std.proofs.lemmas.List.{length-replicate}
use Rattle.std.proofs.lemmas.List.Edits.{sets}
use Rattle.std.proofs.Math.Seq.{length-sets, get_or-take, get_or-drop, drop-cons}
use Rattle.rules.specs.Sizes.{worlds, most_cores}
use Rattle.rules.specs.Choice.{pick, picked, passed, either, both_true, left_true, right_true, yes_or_no}
use Rattle.registers.specs.declared.Shown.{Shown}

-- ---- the table: eight cores, four worlds of each, nine numbers of each

-- how many numbers are saved for each core and world, and how many in all
abbrev pub each : ℕ
each = 9

abbrev pub numbers : ℕ
numbers = most_cores * worlds * each

pub Whole : List ℕ → Type 0
Whole t = length t ≡ numbers

pub zeros : List ℕ
zeros = replicate numbers 0

abbrev place : ℕ → ℕ → ℕ
place c w = (c * worlds + w) * each

-- where the numbers of a core and world begin
pub start_of : ℕ → ℕ → Option ℕ
start_of c w = pick (ltb c most_cores) (pick (ltb w worlds) (Some (place c w)) None) None

-- the part of the table that holds them
part_at : List ℕ → Option ℕ → List ℕ
part_at t (Some a) = take each (drop a t)
part_at t None = []

-- what a reader finds in such a part: number i, and 0 past its end
pub number_in : List ℕ → ℕ → ℕ
number_in part i = get_or part i 0

unfoldable pub shown_in : List ℕ → Shown
shown_in part = record { x0 = number_in part 0; x1 = number_in part 1; x2 = number_in part 2; x3 = number_in part 3 }

-- the numbers xs in place of as many from there on, nine at most
saving_at : List ℕ → Option ℕ → List ℕ → List ℕ
saving_at t (Some a) xs = sets t a (take each xs)
saving_at t None xs = t

pub count_of : ℕ → ℕ
count_of n = pick (ltb n each) n each

-- what the table is to be, once number i of xs and those after it are written
pub left : List ℕ → ℕ → List ℕ → ℕ → List ℕ
left t a xs i = sets t (a + i) (drop i (take each xs))

-- ---- what the promises say

-- number i of a core and world: eight registers, and in ninth place where the core started
pub saved : List ℕ → ℕ → ℕ → ℕ → ℕ
saved t c w i = number_in (part_at t (start_of c w)) i

-- the first four of them
unfoldable pub shown_of : List ℕ → ℕ → ℕ → Shown
shown_of t c w = record { x0 = saved t c w 0; x1 = saved t c w 1; x2 = saved t c w 2; x3 = saved t c w 3 }

-- the table after the numbers xs are written to a core and world, from x0 on
pub saving : List ℕ → ℕ → ℕ → List ℕ → List ℕ
saving t c w xs = saving_at t (start_of c w) xs

-- ---- how the code meets these definitions

pub zeros_made : replicate numbers 0 ≡ zeros
unfolding zeros
zeros_made = refl

module _ (c w : ℕ) where
  pub start_here : c < most_cores → w < worlds → Some (place c w) ≡ start_of c w
  unfolding start_of
  start_here h k = picked _ _ _ _ (lt-ltb c most_cores h) (picked _ _ _ _ (lt-ltb w worlds k) refl)

  pub start_no_core : most_cores ≤ c → None ≡ start_of c w
  unfolding start_of
  start_no_core h = passed _ _ _ _ (le-ltb c most_cores h) refl

  pub start_no_world : c < most_cores → worlds ≤ w → None ≡ start_of c w
  unfolding start_of
  start_no_world h k = picked _ _ _ _ (lt-ltb c most_cores h) (passed _ _ _ _ (le-ltb w worlds k) refl)

pub ruleset starts = (start_here, start_no_core, start_no_world)

-- a core and world have a place, or there is none
placed : {P : Type 0} (c w : ℕ) → (c < most_cores → w < worlds → start_of c w ≡ Some (place c w) → P) → (start_of c w ≡ None → P) → P
placed c w f g =
    either (ltb c most_cores)
    (λ e. let h = ltb-true c most_cores e in
    either (ltb w worlds) (λ d. let k = ltb-true w worlds d in f h k (sym (start_here c w h k))) (λ d. g (sym (start_no_world c w h (ltb-false w worlds d)))))
    (λ e. g (sym (start_no_core c w (ltb-false c most_cores e))))

-- nine numbers stand from there on
pub start_fits : (c w a : ℕ) (s : Option ℕ) → s ≡ start_of c w → s ≡ Some a → a + each ≤ numbers
start_fits c w a s f g =
    placed c w
    (λ h k e. let z : a ≡ place c w = cc in omega arith)
    (λ e. let z : ◌≡◌ {A = ℕ} 0 1 = cc in absurd (omega arith))

module _ (part : List ℕ) (i : ℕ) where
  pub number_there : i < length part → get_or part i 0 ≡ number_in part i
  unfolding number_in
  number_there h = refl

  pub number_past : length part ≤ i → 0 ≡ number_in part i
  unfolding number_in
  number_past h = sym (get_or-eq_default part 0 h)

pub ruleset numbers_in = (number_there, number_past)

module _ (t : List ℕ) (c w : ℕ) (s : Option ℕ) (f : s ≡ start_of c w) where
  module _ (a : ℕ) (g : s ≡ Some a) where
    part_there : take (a + each - a) (drop a t) ≡ part_at t (start_of c w)
    unfolding part_at
    part_there = let n : a + each - a ≡ each = omega arith in rw (← f, g, n)

    pub number_at : (r i : ℕ) → r ≡ number_in (take (a + each - a) (drop a t)) i → r ≡ saved t c w i
    unfolding saved
    number_at r i h = rw (← part_there) h

    pub shown_there : (r : Shown) → r ≡ shown_in (take (a + each - a) (drop a t)) → r ≡ shown_of t c w
    unfolding shown_in shown_of saved
    shown_there r h = rw (← part_there) h

    left_all : (xs : List ℕ) → saving t c w xs ≡ left t a xs 0
    unfolding saving saving_at left
    left_all xs = let z : a + 0 ≡ a = omega arith in rw (← f, g, z)

  module _ (g : s ≡ None) where
    pub saved_nowhere : (i : ℕ) → 0 ≡ saved t c w i
    unfolding saved part_at number_in
    saved_nowhere i = rw (← f, g)

    pub shown_nowhere : record { x0 = 0; x1 = 0; x2 = 0; x3 = 0 } ≡ shown_of t c w
    unfolding shown_of
    shown_nowhere = λ i. record { x0 = saved_nowhere 0 i; x1 = saved_nowhere 1 i; x2 = saved_nowhere 2 i; x3 = saved_nowhere 3 i }

    pub saving_nowhere : (xs : List ℕ) → t ≡ saving t c w xs
    unfolding saving saving_at
    saving_nowhere xs = rw (← f, g)

pub ruleset reading = (shown_there, shown_nowhere, number_at, saved_nowhere)

module _ (n : ℕ) where
  pub count_few : n < each → n ≡ count_of n
  unfolding count_of
  count_few h = picked _ _ _ _ (lt-ltb n each h) refl

  pub count_nine : each ≤ n → each ≡ count_of n
  unfolding count_of
  count_nine h = passed _ _ _ _ (le-ltb n each h) refl

pub ruleset counts = (count_few, count_nine)

count_take : (xs : List ℕ) → count_of (length xs) ≡ length (take each xs)
count_take xs =
    either (ltb (length xs) each)
    (λ e. let h = ltb-true (length xs) each e in sym (count_few (length xs) h) ∙ sym (rw length-take (omega arith)))
    (λ e. let h = ltb-false (length xs) each e in sym (count_nine (length xs) h) ∙ sym (rw length-take (omega arith)))

-- the loop that writes n numbers of xs from a on has written i of them
pub record Writing (t₀ : List ℕ) (c w : ℕ) (xs : List ℕ) (a n : ℕ) (t : List ℕ) (i : ℕ) : Type 0 where
  pub room : a + n ≤ numbers
  pub enough : n ≤ length xs
  pub whole : n ≡ length (take each xs)
  pub rest : saving t₀ c w xs ≡ left t a xs i

module _ (t₀ : List ℕ) (c w : ℕ) (xs : List ℕ) (a n : ℕ) where
  pub writing_starts : (s : Option ℕ) → s ≡ start_of c w → s ≡ Some a → n ≡ count_of (length xs) → Writing t₀ c w xs a n t₀ 0
  writing_starts s f g e =
      let m : n ≡ length (take each xs) = e ∙ count_take xs in
      let l = length-take each xs in
      let h = start_fits c w a s f g in
      record { room = omega arith; enough = omega arith; whole = m; rest = left_all t₀ c w s f a g xs }

  module _ (t : List ℕ) (i : ℕ) (k : Writing t₀ c w xs a n t i) where
    pub writing_goes : (t' : List ℕ) → t' ≡ set t (a + i) (get_or xs i 0) → i < n → Writing t₀ c w xs a n t' (i + 1)
    unfolding left
    writing_goes t' e h =
        let l = length-take each xs in
        let z : a + (i + 1) ≡ suc (a + i) = omega arith in
        record {
          room = k.room;
          enough = k.enough;
          whole = k.whole;
          rest = k.rest ∙ rw (e, z, add-one i, drop-cons (take each xs) i 0 (omega arith), get_or-take each xs i 0 (omega arith));
        }

    pub writing_ends : n ≤ i → t ≡ saving t₀ c w xs
    unfolding left
    writing_ends h = sym (k.rest ∙ rw (drop_of_length-le (take each xs) {i = i} (omega arith)))

-- eight numbers, read one by one, are all there are
all_eight : (x : List ℕ) → length x ≡ 8
    → (get_or x 0 0 ∷ get_or x 1 0 ∷ get_or x 2 0 ∷ get_or x 3 0 ∷ get_or x 4 0 ∷ get_or x 5 0 ∷ get_or x 6 0 ∷ get_or x 7 0 ∷ []) ≡ x
all_eight x e = ext_get_or 0 _ x (sym e) (λ i h. at i h)
  where
    at : (i : ℕ) → i < 8 → get_or (get_or x 0 0 ∷ get_or x 1 0 ∷ get_or x 2 0 ∷ get_or x 3 0 ∷ get_or x 4 0 ∷ get_or x 5 0 ∷ get_or x 6 0 ∷ get_or x 7 0 ∷ []) i 0 ≡ get_or x i 0
    at zero h = refl
    at (suc zero) h = refl
    at (suc (suc zero)) h = refl
    at (suc (suc (suc zero))) h = refl
    at (suc (suc (suc (suc zero)))) h = refl
    at (suc (suc (suc (suc (suc zero))))) h = refl
    at (suc (suc (suc (suc (suc (suc zero)))))) h = refl
    at (suc (suc (suc (suc (suc (suc (suc zero))))))) h = refl
    at (suc (suc (suc (suc (suc (suc (suc (suc i)))))))) h = absurd (omega arith)

pub saving_eight : (t t' : List ℕ) (c w : ℕ) (x : List ℕ) → length x ≡ 8
    → t' ≡ saving t c w (get_or x 0 0 ∷ get_or x 1 0 ∷ get_or x 2 0 ∷ get_or x 3 0 ∷ get_or x 4 0 ∷ get_or x 5 0 ∷ get_or x 6 0 ∷ get_or x 7 0 ∷ []) → t' ≡ saving t c w x
saving_eight t t' c w x e h = rw (all_eight x e) at h

pub ruleset writing = (writing_starts, writing_goes, writing_ends, saving_nowhere)

-- ---- a run of numbers written into a table: which ones change
sets_before : (vs t : List ℕ) (a k : ℕ) → k < a → get_or (sets t a vs) k 0 ≡ get_or t k 0
sets_before [] t a k h = refl
sets_before (v ∷ vs) t a k h = sets_before vs (set t a v) (suc a) k (omega arith) ∙ get_or-set_other t a k v 0 (λ e. omega arith)

sets_past : (vs t : List ℕ) (a k : ℕ) → a + length vs ≤ k → get_or (sets t a vs) k 0 ≡ get_or t k 0
sets_past [] t a k h = refl
sets_past (v ∷ vs) t a k h = sets_past vs (set t a v) (suc a) k (omega arith) ∙ get_or-set_other t a k v 0 (λ e. omega arith)

sets_in : (vs t : List ℕ) (a j : ℕ) → j < length vs → a + length vs ≤ length t → get_or (sets t a vs) (a + j) 0 ≡ get_or vs j 0
sets_in [] t a j h l = absurd (omega arith)
sets_in (v ∷ vs) t a zero h l =
    let z : a + 0 ≡ a = omega arith in rw z (sets_before vs (set t a v) (suc a) a (omega arith) ∙ get_or-set_same t a v 0 (omega arith))
sets_in (v ∷ vs) t a (suc j) h l =
    let z : a + suc j ≡ suc a + j = omega arith in
    let n = length-set t a v in
    rw z (sets_in vs (set t a v) (suc a) j (omega arith) (omega arith))

-- ---- for the crates above

-- a core or a world that there is not has no numbers, and none is written there
module _ (t : List ℕ) (c w : ℕ) where
  saved_lost : start_of c w ≡ None → (i : ℕ) → saved t c w i ≡ 0
  saved_lost e i = sym (saved_nowhere t c w None (sym e) refl i)

  saving_lost : start_of c w ≡ None → (xs : List ℕ) → saving t c w xs ≡ t
  saving_lost e xs = sym (saving_nowhere t c w None (sym e) refl xs)

  pub saved_no_number : (i : ℕ) → each ≤ i → saved t c w i ≡ 0
  unfolding saved part_at number_in
  saved_no_number i h =
      placed c w
      (λ k l e. let n = length-take each (drop (place c w) t) in rw e (get_or-eq_default (take each (drop (place c w) t)) 0 {n = i} (omega arith)))
      (λ e. rw e)

-- a number is one of the nine of a core and world, or there is none in any table
numbered : {P : Type 0} (c w i : ℕ) → (c < most_cores → w < worlds → i < each → P) → (((t : List ℕ) → saved t c w i ≡ 0) → P) → P
numbered c w i f g =
    placed c w
    (λ h k e. either (ltb i each) (λ d. f h k (ltb-true i each d)) (λ d. g (λ t. saved_no_number t c w i (ltb-false i each d))))
    (λ e. g (λ t. saved_lost t c w e i))

module _ (t : List ℕ) (c w : ℕ) (h : c < most_cores) (k : w < worlds) where
  saved_is : (i : ℕ) → i < each → saved t c w i ≡ get_or t (place c w + i) 0
  unfolding saved part_at number_in
  saved_is i l = rw (← start_here c w h k) (get_or-take each (drop (place c w) t) i 0 l ∙ get_or-drop (place c w) t i 0)

  saving_is : (xs : List ℕ) → saving t c w xs ≡ sets t (place c w) (take each xs)
  unfolding saving saving_at
  saving_is xs = rw (← start_here c w h k)

pub zeros_whole : Whole zeros
unfolding zeros Whole
zeros_whole = length-replicate {A = ℕ} numbers 0

-- every number is 0 at first
blank_at : (n j : ℕ) → ◌≡◌ {A = ℕ} (get_or (replicate n 0) j 0) 0
blank_at zero j = refl
blank_at (suc n) zero = refl
blank_at (suc n) (suc j) = blank_at n j

pub saved_zeros : (c w i : ℕ) → saved zeros c w i ≡ 0
unfolding zeros
saved_zeros c w i = numbered c w i (λ h k l. saved_is zeros c w h k i l ∙ blank_at numbers (place c w + i)) (λ z. z zeros)

module _ (t : List ℕ) (c w : ℕ) (xs : List ℕ) where
  pub saving_whole : Whole t → Whole (saving t c w xs)
  unfolding Whole
  saving_whole a = placed c w (λ h k e. rw (saving_is t c w h k xs, length-sets) a) (λ e. rw (saving_lost t c w e xs) a)

  -- the numbers of xs stand from x0 on
  pub saving_at_lem : (j : ℕ) → Whole t → c < most_cores → w < worlds → j < each → j < length xs → saved (saving t c w xs) c w j ≡ get_or xs j 0
  unfolding Whole
  saving_at_lem j a h k l m =
      let n = length-take each xs in
      saved_is (saving t c w xs) c w h k j l
      ∙ rw (saving_is t c w h k xs) (sets_in (take each xs) t (place c w) j (omega arith) (omega arith))
      ∙ get_or-take each xs j 0 l

  -- those past them stay
  pub saving_past : (j : ℕ) → length xs ≤ j → saved (saving t c w xs) c w j ≡ saved t c w j
  saving_past j m =
      let n = length-take each xs in
      numbered c w j
      (λ h k l. saved_is (saving t c w xs) c w h k j l
      ∙ rw (saving_is t c w h k xs) (sets_past (take each xs) t (place c w) (place c w + j) (omega arith))
      ∙ sym (saved_is t c w h k j l))
      (λ z. z (saving t c w xs) ∙ sym (z t))

  -- nine numbers at one place are apart from nine at another
  away : (d u j : ℕ) → (c ≡ d → w ≡ u → ⊥) → w < worlds → u < worlds → j < each → get_or (sets t (place c w) (take each xs)) (place d u + j) 0 ≡ get_or t (place d u + j) 0
  away d u j o k q l =
      let n = length-take each xs in
      either (ltb (d * worlds + u) (c * worlds + w))
      (λ b. let y = ltb-true (d * worlds + u) (c * worlds + w) b in sets_before (take each xs) t (place c w) (place d u + j) (omega arith))
      (λ b. ⊎_elim
      (λ (y : c * worlds + w ≡ d * worlds + u). absurd (o (omega arith) (omega arith)))
      (λ (y : c * worlds + w < d * worlds + u). sets_past (take each xs) t (place c w) (place d u + j) (omega arith))
      (eq-or-lt_of_le (ltb-false (d * worlds + u) (c * worlds + w) b)))

  -- and so do those of another core or world
  pub saving_other : (d u j : ℕ) → (c ≡ d → w ≡ u → ⊥) → saved (saving t c w xs) d u j ≡ saved t d u j
  saving_other d u j o =
      placed c w
      (λ h k e. numbered d u j
      (λ p q l. saved_is (saving t c w xs) d u p q j l ∙ rw (saving_is t c w h k xs) (away d u j o k q l) ∙ sym (saved_is t d u p q j l))
      (λ z. z (saving t c w xs) ∙ sym (z t)))
      (λ e. rw (saving_lost t c w e xs))

-- writing nothing changes nothing
pub saving_none : (t : List ℕ) (c w : ℕ) → saving t c w [] ≡ t
saving_none t c w = placed c w (λ h k e. saving_is t c w h k []) (λ e. saving_lost t c w e [])

-- two tables that agree in a number agree in it once the same numbers are written to both
pub saving_agree : (t q : List ℕ) (c w : ℕ) (xs : List ℕ) (d u j : ℕ) → Whole t → Whole q → saved t d u j ≡ saved q d u j
    → saved (saving t c w xs) d u j ≡ saved (saving q c w xs) d u j
saving_agree t q c w xs d u j a b e =
    numbered d u j
    (λ h k l. either (eqb c d && eqb w u)
    (λ y. let f : c ≡ d = eqb-true c d (left_true (eqb c d) (eqb w u) y) in
    let g : w ≡ u = eqb-true w u (right_true (eqb c d) (eqb w u) y) in
    rw (f, g) (here h k l))
    (λ n. saving_other t c w xs d u j (apart n) ∙ e ∙ sym (saving_other q c w xs d u j (apart n))))
    (λ z. z (saving t c w xs) ∙ sym (z (saving q c w xs)))
  where
    here : d < most_cores → u < worlds → j < each → saved (saving t d u xs) d u j ≡ saved (saving q d u xs) d u j
    here h k l =
        either (ltb j (length xs))
        (λ y. let m = ltb-true j (length xs) y in saving_at_lem t d u xs j a h k l m ∙ sym (saving_at_lem q d u xs j b h k l m))
        (λ n. let m = ltb-false j (length xs) n in saving_past t d u xs j m ∙ e ∙ sym (saving_past q d u xs j m))

    apart : (eqb c d && eqb w u) ≡ false → c ≡ d → w ≡ u → ⊥
    apart n f g = yes_or_no (eqb c d && eqb w u) (both_true (eqb c d) (eqb w u) (eq-eqb c d f) (eq-eqb w u g)) n
