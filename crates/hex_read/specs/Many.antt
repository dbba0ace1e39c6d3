-- 128 signs read at once: the eight numbers that they stand for, or that they are no digits.
use Rattle.std.specs.Prelude.{◌≡◌, ℕ, zero, suc, ◌+◌, ◌-◌, ◌*◌, ◌<◌, ◌≤◌, Bool, true, false, ◌&&◌, ltb, List, length, nat_lt, slice_index, slice_set}
use Rattle.std.proofs.Math.Path.{refl, sym, ap}
use Rattle.std.proofs.Common.{◌∙◌}
use native.Mathlib.Omega.{arith}
use Rattle.std.proofs.Math.Nat.{add-zero}
use Rattle.std.proofs.Math.Seq.{ext_get_or}
use borrow.Author.Tests.{lt-ltb, le-ltb, ltb-true}
use Rattle.rules.specs.Choice.{pick, picked, passed, by, either, yes_or_no}
use Rattle.tools.specs.Search.{all, all_at, all_goes, all_stops, all_ends}
use Rattle.hex_digits.specs.Hex.{value_of, digit_at, value, number, numbers}
use Rattle.hex_digits.specs.Read.{no_digit, digit_past}
use Rattle.hex_digits.specs.Rows.{Row, Filled, filled_none, filled_more, filled_all}
use Rattle.hex_read.specs.Marks.{mark_of, mark_tells, mark_value}
use Rattle.hex_read.specs.Packed.{Small, value_in, word_of}

-- the eight numbers of the 128 signs from byte k on, and whether these are digits; else the numbers as they stood
unfoldable pub eight : List ℕ → ℕ → List ℕ → Bool × List ℕ
eight l k xs = pick (all (digit_at l) (k * 2) 128) (true, numbers l k 8) (false, xs)

-- the mark of a sign behind a place
abbrev pub mark_at : List ℕ → ℕ → ℕ → ℕ
mark_at l at j = mark_of (slice_index l (at + j))

-- the marks of 128 signs from a place on, and whether these are digits
pub record Digits (l : List ℕ) (at most : ℕ) (ds : List ℕ) : Type 0 where
  pub all_are : ltb most 16 ≡ all (digit_at l) at 128
  pub row : Row (mark_at l at) 128 ds

-- ---- sign by sign
pub record Scanned (l : List ℕ) (at i most : ℕ) (ds : List ℕ) : Type 0 where
  pub left : all (digit_at l) at 128 ≡ (nat_lt most 16 && all (digit_at l) (at + i) (128 - i))
  pub row : Filled (mark_at l at) 128 i ds

-- one of them more, whatever was found before
one_more : (p : ℕ → Bool) (a n : ℕ) (x : Bool) → 0 < n → (x && all p a n) ≡ ((x && p a) && all p (a + 1) (n - 1))
one_more p a n true h =
    either (p a)
    (λ y. rw y (all_goes p a n (all p a n) refl h y))
    (λ e. rw e (sym (all_stops p a n (all p a n) refl h e)))
one_more p a n false h = refl

module _ (l : List ℕ) (at : ℕ) where
  pub scanned_none : (ds : List ℕ) → length ds ≡ 128 → Scanned l at 0 0 ds
  scanned_none ds h = record { left = rw add-zero; row = filled_none (mark_at l at) 128 ds h }

  pub scanned_more :
      (i d most next : ℕ) (ds : List ℕ) → i < 128 → d ≡ mark_of (slice_index l (at + i)) → nat_lt next 16 ≡ (nat_lt most 16 && nat_lt d 16) →
      Scanned l at i most ds → Scanned l at (i + 1) next (slice_set ds i d)
  scanned_more i d most next ds h e g s =
      let n : 128 - i - 1 ≡ 128 - (i + 1) = omega arith in
      let k : at + i + 1 ≡ at + (i + 1) = omega arith in
      let t : ltb d 16 ≡ digit_at l (at + i) = rw e (mark_tells (slice_index l (at + i))) in
      record {
        left = s.left ∙ one_more (digit_at l) (at + i) (128 - i) (nat_lt most 16) (omega arith) ∙ rw (g, t, k, n);
        row = filled_more (mark_at l at) 128 i d ds h e s.row;
      }

  pub scanned_all : (i most : ℕ) (ds : List ℕ) → 128 ≤ i → Scanned l at i most ds → Digits l at most ds
  scanned_all i most ds h s = record {
    all_are = sym (s.left ∙ rw (← all_ends (digit_at l) (at + i) (128 - i) (all (digit_at l) (at + i) (128 - i)) refl (omega arith))
        (by (λ (x : Bool). (x && true) ≡ x) (nat_lt most 16) (λ _. refl) (λ _. refl)));
    row = filled_all (mark_at l at) 128 i ds h s.row;
  }

pub ruleset scanning = (scanned_none, scanned_more, scanned_all)

-- ---- the eight numbers
module _ (l : List ℕ) where
  eighth : (k n j : ℕ) → j < n → slice_index (numbers l k n) j ≡ number l (k + j * 8) 8
  unfolding numbers
  eighth k zero j h = absurd (omega arith)
  eighth k (suc n) zero h = rw add-zero
  eighth k (suc n) (suc j) h = let e : k + 8 + j * 8 ≡ k + suc j * 8 = omega arith in eighth (k + 8) n j (omega arith) ∙ rw e

  length_numbers : (k n : ℕ) → length (numbers l k n) ≡ n
  unfolding numbers
  length_numbers k zero = refl
  length_numbers k (suc n) = ap suc (length_numbers (k + 8) n)

module _ (l : List ℕ) (at most : ℕ) (ds : List ℕ) (d : Digits l at most ds) (h : most ≤ 15) where
  are_digits : all (digit_at l) at 128 ≡ true
  are_digits = sym d.all_are ∙ lt-ltb most 16 (omega arith)

  one_digit : (j : ℕ) → j < 128 → (slice_index ds j ≡ value_of (slice_index l (at + j))) × (slice_index ds j < 16)
  one_digit j g =
      let t : digit_at l (at + j) ≡ true = all_at (digit_at l) at 128 (at + j) are_digits (omega arith) (omega arith) in
      let m : mark_at l at j < 16 = ltb-true _ _ (mark_tells (slice_index l (at + j)) ∙ t) in
      (d.row j g ∙ mark_value _ m, omega (arith, d.row j g))

  pub digits_small : Small ds
  digits_small j g = (one_digit j g).1

  value_same : (b n : ℕ) → b + n ≤ 128 → value_in ds b n ≡ value l (at + b) n
  unfolding value_in value
  value_same b zero g = refl
  value_same b (suc n) g =
      let e : at + (b + n) ≡ at + b + n = omega arith in
      rw (value_same b n (omega arith)) (ap (λ (x : ℕ). value l (at + b) n * 16 + x) ((one_digit (b + n) (omega arith)).0 ∙ rw e))

-- ---- each outcome
module _ (l xs : List ℕ) (k : ℕ) where
  -- too few signs are there
  pub eight_short : length l < k * 2 + 128 → (false, xs) ≡ eight l k xs
  unfolding eight
  eight_short h =
      let none : digit_at l (k * 2 + 127) ≡ false = no_digit l (k * 2 + 127) 16 (digit_past l (k * 2 + 127) (omega arith)) (omega arith) in
      either (all (digit_at l) (k * 2) 128)
      (λ y. absurd (yes_or_no (digit_at l (k * 2 + 127)) (all_at (digit_at l) (k * 2) 128 (k * 2 + 127) y (omega arith) (omega arith)) none))
      (λ n. passed _ _ _ _ n refl)

  module _ (most : ℕ) (ds : List ℕ) (d : Digits l (k * 2) most ds) where
    pub eight_none : 15 < most → (false, xs) ≡ eight l k xs
    unfolding eight
    eight_none h = passed _ _ _ _ (sym d.all_are ∙ le-ltb most 16 (omega arith)) refl

    pub eight_read : (ys : List ℕ) → most ≤ 15 → length ys ≡ 8 → Row (word_of ds) 8 ys → (true, ys) ≡ eight l k xs
    unfolding eight
    eight_read ys h g r =
        let same : ys ≡ numbers l k 8 = ext_get_or 0 ys (numbers l k 8) (g ∙ sym (length_numbers l k 8)) (λ j q.
        let m : j < 8 = omega (arith, g) in
        let p : k * 2 + j * 16 ≡ (k + j * 8) * 2 = omega arith in
        r j m ∙ value_same l (k * 2) most ds d h (j * 16) 16 (omega arith) ∙ rw p (sym (eighth l k 8 j m))) in
        picked _ _ _ _ (are_digits l (k * 2) most ds d h) (rw same)

pub ruleset eights = (eight_short, eight_none, eight_read)

-- ---- what was read
module _ (l xs ys : List ℕ) (k : ℕ) where
  pub eight_was : (true, ys) ≡ eight l k xs → (all (digit_at l) (k * 2) 128 ≡ true) × (ys ≡ numbers l k 8)
  unfolding eight pick
  eight_was e =
      by (λ (b : Bool). all (digit_at l) (k * 2) 128 ≡ b → ◌≡◌ {A = Bool × List ℕ} (true, ys) (pick b (true, numbers l k 8) (false, xs)) → (all (digit_at l) (k * 2) 128 ≡ true) × (ys ≡ numbers l k 8))
      (all (digit_at l) (k * 2) 128)
      (λ y h g. (h, ap (λ (p : Bool × List ℕ). p.1) g))
      (λ y h g. absurd (let z : true ≡ false = ap (λ (p : Bool × List ℕ). p.0) g in let w : ◌≡◌ {A = ℕ} 0 1 = cc in omega arith))
      refl e

  pub eight_left : (false, ys) ≡ eight l k xs → ys ≡ xs
  unfolding eight pick
  eight_left e =
      by (λ (b : Bool). ◌≡◌ {A = Bool × List ℕ} (false, ys) (pick b (true, numbers l k 8) (false, xs)) → ys ≡ xs) (all (digit_at l) (k * 2) 128)
      (λ y g. absurd (let z : false ≡ true = ap (λ (p : Bool × List ℕ). p.0) g in let w : ◌≡◌ {A = ℕ} 0 1 = cc in omega arith))
      (λ y g. ap (λ (p : Bool × List ℕ). p.1) g)
      e
