-- Signs read one by one: whether all of a line are digits, a byte, and a number.
use Rattle.std.specs.Prelude.{◌≡◌, Bool, true, false, ◌&&◌, List, ℕ, zero, suc, ◌+◌, ◌-◌, ◌*◌, ◌%◌, ◌^◌, ◌≤◌, ◌<◌, get_or, None, Option, Some}
use Rattle.std.proofs.Math.Path.{refl}
use Rattle.std.proofs.Common.{ap, ◌∙◌, pow-suc, Fits, lt-ltb, le-ltb}
use native.Mathlib.Omega.{arith}
use Rattle.std.proofs.Math.Numerals.{add-one}
use Rattle.std.proofs.Math.Nat.{pow-le-pow_right, add-zero}
use Rattle.std.specs.Int.{w64}
use Rattle.std.proofs.Math.ListN.{length, get_or-eq_default}
use Rattle.rules.specs.Choice.{pick, picked, passed, by, left_false, right_false, both_true}
use Rattle.tools.specs.Search.{all, all_goes, all_stops, all_ends}
use Rattle.hex_digits.specs.Hex.{digit_of, digit_at, all_digits, value, number, digit_most}

-- byte k of a line, where its two signs are digits
unfoldable pub byte_of : List ℕ → ℕ → Option ℕ
byte_of l k = pick (all (digit_at l) (k * 2) 2) (Some (number l k 1)) None

-- past the end there is no digit
pub digit_past : (l : List ℕ) (i : ℕ) → length l ≤ i → 16 ≡ digit_of (get_or l i 0)
unfolding digit_of pick
digit_past l i h = rw (get_or-eq_default l 0 h)

-- a number that is a digit, or 16
module _ (b d r : ℕ) (e : d ≡ digit_of b) (f : r ≡ d) where
  pub digit_same : r ≡ digit_of b
  digit_same = f ∙ e

  pub digit_few : r ≤ 16
  digit_few = omega (arith, digit_most b)

-- a digit, or none, by what was read of it
module _ (l : List ℕ) (i d : ℕ) (e : d ≡ digit_of (get_or l i 0)) where
  pub is_digit : d < 16 → digit_at l i ≡ true
  is_digit h = lt-ltb (digit_of (get_or l i 0)) 16 (omega arith)

  pub no_digit : 16 ≤ d → digit_at l i ≡ false
  no_digit h = le-ltb (digit_of (get_or l i 0)) 16 (omega arith)

-- ---- a line of digits
abbrev pub Left : List ℕ → ℕ → Type 0
Left l i = all_digits l ≡ all (digit_at l) i (length l - i)

module _ (l : List ℕ) where
  pub left_all : Left l 0
  unfolding all_digits
  left_all = let e : length l - 0 ≡ length l = omega arith in rw e

  module _ (i d : ℕ) (e : d ≡ digit_of (get_or l i 0)) (k : Left l i) (h : i < length l) where
    pub left_less : d ≤ 15 → Left l (i + 1)
    left_less g =
        let q : length l - i - 1 ≡ length l - (i + 1) = omega arith in
        all_goes (digit_at l) i (length l - i) (all_digits l) k (omega arith) (is_digit l i d e (omega arith)) ∙ rw q

    pub left_stops : 15 < d → false ≡ all_digits l
    left_stops g = all_stops (digit_at l) i (length l - i) (all_digits l) k (omega arith) (no_digit l i d e (omega arith))

  pub left_none : (i : ℕ) → Left l i → length l ≤ i → true ≡ all_digits l
  left_none i k h = all_ends (digit_at l) i (length l - i) (all_digits l) k (omega arith)

pub ruleset digits_left = (left_all, left_less, left_stops, left_none)

-- ---- a byte
module _ (l : List ℕ) (k high : ℕ) (a : high ≡ digit_of (get_or l (k * 2) 0)) where
  two : all (digit_at l) (k * 2) 2 ≡ (digit_at l (k * 2) && digit_at l (k * 2 + 1))
  unfolding all
  two = rw add-one (by (λ (c : Bool). (digit_at l (k * 2) && (c && true)) ≡ (digit_at l (k * 2) && c)) (digit_at l (suc (k * 2))) (λ _. refl) (λ _. refl))

  pub byte_first : high ≡ 16 → None ≡ byte_of l k
  unfolding byte_of
  byte_first h = passed _ _ _ _ (two ∙ left_false (digit_at l (k * 2)) (digit_at l (k * 2 + 1)) (no_digit l (k * 2) high a (omega arith))) refl

  module _ (low : ℕ) (b : low ≡ digit_of (get_or l (k * 2 + 1) 0)) where
    pub byte_second : low ≡ 16 → None ≡ byte_of l k
    unfolding byte_of
    byte_second h = passed _ _ _ _ (two ∙ right_false (digit_at l (k * 2)) (digit_at l (k * 2 + 1)) (no_digit l (k * 2 + 1) low b (omega arith))) refl

    pub byte_is : high ≤ 16 → (high ≡ 16 → ⊥) → low ≤ 16 → (low ≡ 16 → ⊥) → Some (high * 16 + low) ≡ byte_of l k
    unfolding byte_of value
    byte_is g n h m =
        let x : high < 16 = omega arith in
        let y : low < 16 = omega arith in
        picked _ _ _ _ (two ∙ both_true (digit_at l (k * 2)) (digit_at l (k * 2 + 1)) (is_digit l (k * 2) high a x) (is_digit l (k * 2 + 1) low b y))
        (rw add-zero (ap Some (omega arith)))

pub ruleset bytes = (byte_first, byte_second, byte_is)

-- what was read was two digits
pub byte_was : (l : List ℕ) (k x : ℕ) → Some x ≡ byte_of l k → (all (digit_at l) (k * 2) 2 ≡ true) × (x ≡ number l k 1)
unfolding byte_of pick
byte_was l k x e =
    by (λ (b : Bool). all (digit_at l) (k * 2) 2 ≡ b → Some x ≡ pick b (Some (number l k 1)) None → (all (digit_at l) (k * 2) 2 ≡ true) × (x ≡ number l k 1)) (all (digit_at l) (k * 2) 2)
    (λ y h g. (h, cc))
    (λ y h g. absurd (let z : ◌≡◌ {A = ℕ} 0 1 = cc in omega arith))
    refl e

-- ---- a number, sign by sign
pub value_small : (l : List ℕ) (at n : ℕ) → value l at n < 16 ^ n
unfolding value
value_small l at zero = omega arith
value_small l at (suc n) = let v = value_small l at n in rw pow-suc (omega arith)

-- past the end there is no sign, and a number is 0
pub value_past : (l : List ℕ) (at n : ℕ) → length l ≤ at → 0 ≡ value l at n
unfolding value
value_past l at zero h = refl
value_past l at (suc n) h = let v = value_past l at n h in let d = digit_past l (at + n) (omega arith) in omega arith

-- at most sixteen digits fit a word
fits_word : (n : ℕ) → n ≤ 16 → 16 ^ n ≤ 18446744073709551616
fits_word n h = pow-le-pow_right {n = 16} (omega arith) h

-- x is what the first i of at most sixteen signs stand for
pub record Read (l : List ℕ) (at size i x : ℕ) : Type 0 where
  pub most : size ≤ 16
  pub upto : i ≤ size
  pub is : x ≡ value l at i

module _ (l : List ℕ) (at size : ℕ) where
  pub read_none : size ≤ 16 → Read l at size 0 0
  unfolding value
  read_none h = record { most = h; upto = omega arith; is = refl }

  module _ (i x : ℕ) (r : Read l at size i x) where
    pub read_all : (n : ℕ) → size ≡ n → size ≤ i → x ≡ value l at n
    read_all n f h = let e : i ≡ n = omega (arith, r.upto) in r.is ∙ rw e

    module _ (h : i < size) where
      pub read_wider : Fits w64 (x * 16)
      read_wider =
          let a = value_small l at i in
          let b : 16 ^ i * 16 ≤ 18446744073709551616 = rw pow-suc at (fits_word (suc i) (omega (arith, r.most))) in
          record { fits = omega (arith, r.is) }

      module _ (d : ℕ) (e : d ≡ digit_of (get_or l (at + i) 0)) where
        next_value : x * 16 + d % 16 ≡ value l at (i + 1)
        unfolding value
        next_value = rw (add-one, r.is, e)

        pub read_fits : Fits w64 (x * 16 + d % 16)
        read_fits = record { fits = omega (arith, next_value, value_small l at (i + 1), fits_word (i + 1) (omega (arith, r.most))) }

        pub read_more : Read l at size (i + 1) (x * 16 + d % 16)
        read_more = record { most = r.most; upto = omega arith; is = next_value }

pub ruleset reading = (read_none, read_all, read_wider, read_fits, read_more)
