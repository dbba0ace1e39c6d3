-- How the code meets the definitions: one law for each branch and each pass of a loop.
use Rattle.std.specs.Prelude.{◌≡◌, Bool, ◌||◌, List, ltb, length, get_or, set, min}
use Rattle.std.specs.List.{list_any, range_with_len}
use Rattle.std.proofs.Math.Path.{refl, ap}
use Rattle.std.proofs.Common.{sym, ◌∙◌, mod-eq_of_lt, eq-or-lt_of_le, ⊎_elim, add-one, length-set, lt-ltb, le-ltb, ltb-true, ltb-false}
use Prim.Native.Nat.{ℕ, zero, suc, ◌+◌, ◌-◌, ◌*◌, ◌/◌, ◌%◌, ◌^◌, ◌≤◌, ◌<◌}
use Rattle.std.proofs.Math.Nat.{pow-suc}
use native.Mathlib.Omega.{arith}
use Rattle.std.proofs.Math.ListN.{get_or-eq_default}
use Rattle.std.proofs.lemmas.List.Edits.{sets-eq}
use Rattle.rules.specs.Sizes.{last_world}
use Rattle.rules.specs.Choice.{picked, passed, chosen, either}
use Rattle.tools.specs.Search.{any}
use Rattle.tools.specs.Laid.{laid, laid_past}
use Rattle.marks.specs.Digits.{digit, put, zero_digit, put_same, put_other, put_fits, same_digits}
use Rattle.marks.specs.Owners.{mark_of, owner_of}
use Rattle.conversions.specs.Conversions.{byte_of, mark_in, stray_byte, stray_mark, mark_for, gathered, number_for, byte_for, listed, written}

-- ---- a byte read, and one past the end
pub byte_here : (bytes : List ℕ) (page v : ℕ) → v ≡ get_or bytes page 0 → v ≡ byte_of bytes page
unfolding byte_of
byte_here bytes page v e = e

pub byte_past : (bytes : List ℕ) (page : ℕ) → length bytes ≤ page → 0 ≡ byte_of bytes page
unfolding byte_of
byte_past bytes page h = sym (get_or-eq_default bytes 0 h)

-- ---- a test of each number of a range
pub any_listed : (p : ℕ → Bool) (a n : ℕ) → list_any p (range_with_len a n) ≡ any p a n
unfolding any
any_listed p a zero = refl
any_listed p a (suc n) = rw add-one (ap (λ (b : Bool). p a || b) (any_listed p (suc a) n))

-- ---- 89
module _ (bytes : List ℕ) (page w : ℕ) (e : w ≡ byte_of bytes page) where
  pub byte_judged : ltb last_world w ≡ stray_byte bytes page
  unfolding stray_byte
  byte_judged = rw (← e) refl

module _ (numbers : List ℕ) (page m : ℕ) (e : m ≡ mark_in numbers page) where
  pub mark_of_page : (n w : ℕ) → page < n → w ≡ owner_of m → ltb last_world w ≡ stray_mark n numbers page
  unfolding stray_mark
  mark_of_page n w h f = picked _ _ _ _ (lt-ltb page n h) (rw (← e, ← f))

  pub mark_of_none : (n : ℕ) → n ≤ page → ltb 0 m ≡ stray_mark n numbers page
  unfolding stray_mark
  mark_of_none n h = passed _ _ _ _ (le-ltb page n h) (rw (← e))

  pub byte_by : (w : ℕ) → w ≡ owner_of m → w ≡ byte_for numbers page
  unfolding byte_for
  byte_by w f = rw (← e) f

pub mark_read : (numbers : List ℕ) (page x m : ℕ) → x ≡ get_or numbers (page / 16) 0 → m ≡ digit x (page % 16) → m ≡ mark_in numbers page
unfolding mark_in
mark_read numbers page x m e f = rw (← e) f

pub mark_missing : (numbers : List ℕ) (page i : ℕ) → i ≡ page / 16 → length numbers ≤ i → 0 ≡ mark_in numbers page
unfolding mark_in
mark_missing numbers page i e h = sym (rw (← e, get_or-eq_default numbers 0 h) (zero_digit (page % 16)))

-- ---- marks and owners are small
pub mark_small : (w : ℕ) → mark_of w < 16
unfolding mark_of
mark_small w =
    chosen (λ (m : ℕ). m < 16) _ _ _ (λ y. omega arith)
    (λ y. chosen (λ (m : ℕ). m < 16) _ _ _ (λ y. omega arith)
    (λ y. chosen (λ (m : ℕ). m < 16) _ _ _ (λ y. omega arith) (λ y. chosen (λ (m : ℕ). m < 16) _ _ _ (λ y. omega arith) (λ y. omega arith))))

pub owner_small : (m w : ℕ) → w ≡ owner_of m → w < 256
unfolding owner_of
owner_small m w e =
    rw e (chosen (λ (w : ℕ). w < 256) _ _ _ (λ y. omega arith)
    (λ y. chosen (λ (w : ℕ). w < 256) _ _ _ (λ y. omega arith)
    (λ y. chosen (λ (w : ℕ). w < 256) _ _ _ (λ y. omega arith) (λ y. chosen (λ (w : ℕ). w < 256) _ _ _ (λ y. omega arith) (λ y. omega arith)))))

-- ---- the mark for a page
module _ (n : ℕ) (bytes : List ℕ) (page : ℕ) where
  pub mark_here : (w m : ℕ) → page < n → w ≡ byte_of bytes page → m ≡ mark_of w → m ≡ mark_for n bytes page
  unfolding mark_for
  mark_here w m h e f = picked _ _ _ _ (lt-ltb page n h) (f ∙ ap mark_of e)

  pub mark_past : n ≤ page → 0 ≡ mark_for n bytes page
  unfolding mark_for
  mark_past h = passed _ _ _ _ (le-ltb page n h) refl

  pub mark_for_small : mark_for n bytes page < 16
  unfolding mark_for
  mark_for_small = chosen (λ (m : ℕ). m < 16) (ltb page n) _ _ (λ y. mark_small (byte_of bytes page)) (λ y. omega arith)

-- ---- marks gathered in a number have their places
module _ (f : ℕ → ℕ) (small : (page : ℕ) → f page < 16) where
  pub gathered_fits : (a k : ℕ) → gathered f a k < 16 ^ k
  unfolding gathered
  gathered_fits a zero = omega arith
  gathered_fits a (suc k) = let e = pow-suc 16 k in let r = gathered_fits (suc a) k in let s = small a in omega arith

  pub gathered_digit : (a k place : ℕ) → place < k → digit (gathered f a k) place ≡ f (a + place)
  unfolding gathered digit
  gathered_digit a zero place h = absurd (omega arith)
  gathered_digit a (suc k) zero h = let x = gathered f (suc a) k in let s = small a in let z : a + 0 ≡ a = omega arith in rw z (omega arith)
  gathered_digit a (suc k) (suc place) h =
      let x = gathered f (suc a) k in
      let s = small a in
      let e : (f a + 16 * x) / 16 ≡ x = omega arith in
      let z : a + suc place ≡ suc a + place = omega arith in
      rw (e, z) (gathered_digit (suc a) k place (omega arith))

-- a number in which the marks of so many pages, from a page on, are put one by one
unfoldable pub filled : (ℕ → ℕ) → ℕ → ℕ → ℕ → ℕ
filled f x page zero = x
filled f x page (suc k) = filled f (put x (page % 16) (f page)) (suc page) k

module _ (f : ℕ → ℕ) (small : (page : ℕ) → f page < 16) (i : ℕ) where
  place_is : (j : ℕ) → j < 16 → (16 * i + j) % 16 ≡ j
  place_is j h = omega arith

  next_is : (j : ℕ) → suc (16 * i + j) ≡ 16 * i + suc j
  next_is j = omega arith

  filled_fits : (x j k : ℕ) → j + k ≤ 16 → x < 16 ^ 16 → filled f x (16 * i + j) k < 16 ^ 16
  unfolding filled
  filled_fits x j zero h l = l
  filled_fits x j (suc k) h l =
      let b : j < 16 = omega arith in
      rw (place_is j b, next_is j) (filled_fits (put x j (f (16 * i + j))) (suc j) k (omega arith) (put_fits 16 x j (f (16 * i + j)) l b (small (16 * i + j))))

  filled_before : (x j k place : ℕ) → j + k ≤ 16 → place < j → digit (filled f x (16 * i + j) k) place ≡ digit x place
  unfolding filled
  filled_before x j zero place h l = refl
  filled_before x j (suc k) place h l =
      let b : j < 16 = omega arith in
      let d : place ≡ j → ⊥ = λ e. omega arith in
      rw (place_is j b, next_is j)
      (filled_before (put x j (f (16 * i + j))) (suc j) k place (omega arith) (omega arith) ∙ put_other x j (f (16 * i + j)) place (small (16 * i + j)) d)

  filled_here : (x j k place : ℕ) → j + k ≤ 16 → j ≤ place → place < j + k → digit (filled f x (16 * i + j) k) place ≡ f (16 * i + place)
  unfolding filled
  filled_here x j zero place h a l = absurd (omega arith)
  filled_here x j (suc k) place h a l =
      let b : j < 16 = omega arith in
      let y = put x j (f (16 * i + j)) in
      rw (place_is j b, next_is j)
      (⊎_elim (λ (e : j ≡ place). rw (← e) (filled_before y (suc j) k j (omega arith) (omega arith) ∙ put_same x j (f (16 * i + j)) (small (16 * i + j))))
      (λ (d : j < place). filled_here y (suc j) k place (omega arith) (omega arith) (omega arith)) (eq-or-lt_of_le a))

  -- sixteen marks put in 0 are the sixteen marks gathered
  filled_gathered : filled f 0 (16 * i + 0) 16 ≡ gathered f (16 * i) 16
  filled_gathered =
      same_digits 16 (filled f 0 (16 * i + 0) 16) (gathered f (16 * i) 16) (filled_fits 0 0 16 (omega arith) (omega arith)) (gathered_fits f small (16 * i) 16)
      (λ place h. filled_here 0 0 16 place (omega arith) (omega arith) (omega arith) ∙ sym (gathered_digit f small (16 * i) 16 place h))

-- the loop over them
filled_next : (f : ℕ → ℕ) (x page end : ℕ) → page < end → filled f x page (end - page) ≡ filled f (put x (page % 16) (f page)) (page + 1) (end - (page + 1))
unfolding filled
filled_next f x page end h =
    let q : end - page ≡ suc (end - (page + 1)) = omega arith in
    rw q (rw add-one)

filled_none : (f : ℕ → ℕ) (x page end : ℕ) → end ≤ page → filled f x page (end - page) ≡ x
unfolding filled
filled_none f x page end h = let q : end - page ≡ 0 = omega arith in rw q

pub number_starts : (n : ℕ) (bytes : List ℕ) (i : ℕ) → number_for n bytes i ≡ filled (mark_for n bytes) 0 (16 * i) (16 * i + 16 - 16 * i)
unfolding number_for
number_starts n bytes i =
    let z : 16 * i + 0 ≡ 16 * i = omega arith in
    let q : 16 * i + 16 - 16 * i ≡ 16 = omega arith in
    rw q (sym (rw z at (filled_gathered (mark_for n bytes) (mark_for_small n bytes) i)))

module _ (n : ℕ) (bytes : List ℕ) (v x page end : ℕ) (e : v ≡ filled (mark_for n bytes) x page (end - page)) where
  pub number_goes : (m y : ℕ) → page < end → m ≡ mark_for n bytes page → y ≡ put x (page % 16) (m % 16) → v ≡ filled (mark_for n bytes) y (page + 1) (end - (page + 1))
  number_goes m y h f g =
      let s : m < 16 = rw f (mark_for_small n bytes page) in
      let z : m % 16 ≡ mark_for n bytes page = mod-eq_of_lt s ∙ f in
      rw (g, z) (e ∙ filled_next (mark_for n bytes) x page end h)

  pub number_ends : end ≤ page → x ≡ v
  number_ends h = sym (e ∙ filled_none (mark_for n bytes) x page end h)

-- ---- values laid over a space one by one
pub length_listed : (f : ℕ → ℕ) (a k : ℕ) → length (listed f a k) ≡ k
unfolding listed
length_listed f a zero = refl
length_listed f a (suc k) = ap suc (length_listed f (suc a) k)

laid_next : (f : ℕ → ℕ) (space : List ℕ) (i n : ℕ) → i < n → laid space i (listed f i (n - i)) ≡ laid (set space i (f i)) (i + 1) (listed f (i + 1) (n - (i + 1)))
unfolding laid listed
laid_next f space i n h =
    let q : n - i ≡ suc (n - (i + 1)) = omega arith in
    rw q (rw add-one)

laid_none : (f : ℕ → ℕ) (space : List ℕ) (i n : ℕ) → n ≤ i → laid space i (listed f i (n - i)) ≡ space
unfolding laid listed
laid_none f space i n h = let q : n - i ≡ 0 = omega arith in rw q

-- a loop over n places has written those before place i of the space o, which is p now: what is left, laid from there on, makes w of it
pub record Laying (o w p : List ℕ) (f : ℕ → ℕ) (i n : ℕ) : Type 0 where
  pub long : length p ≡ length o
  pub makes : w ≡ laid p i (listed f i (n - i))

pub laying_starts : (o : List ℕ) (f : ℕ → ℕ) (n : ℕ) → Laying o (laid o 0 (listed f 0 n)) o f 0 n
laying_starts o f n = record { long = refl; makes = let q : n - 0 ≡ n = omega arith in rw q }

module _ (o w p : List ℕ) (f : ℕ → ℕ) (i n : ℕ) (l : Laying o w p f i n) where
  pub laying_goes : (v : ℕ) → i < n → v ≡ f i → Laying o w (set p i v) f (i + 1) n
  laying_goes v h e = record { long = length-set p i v ∙ l.long; makes = l.makes ∙ laid_next f p i n h ∙ rw e refl }

  -- it ends with the places, or with the space
  pub laying_ends : min (length o) n ≤ i → p ≡ w
  laying_ends h =
      either (ltb i n) (λ y. let b = ltb-true i n y in let a = l.long in sym (l.makes ∙ laid_past (listed f i (n - i)) p i (omega arith)))
      (λ z. sym (l.makes ∙ laid_none f p i n (ltb-false i n z)))

-- ---- what is laid over the first places of a space that has so many is what is written there
pub laid_written : (f : ℕ → ℕ) (k : ℕ) (space : List ℕ) → k ≤ length space → laid space 0 (listed f 0 k) ≡ written f k space
unfolding laid written
laid_written f k space h =
    let e = length_listed f 0 k in
    let z : 0 + length (listed f 0 k) ≤ length space = omega arith in
    let y : 0 + length (listed f 0 k) ≡ k = omega arith in
    sets-eq (listed f 0 k) space 0 z ∙ rw y
