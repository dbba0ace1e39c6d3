-- Lower-case hexadecimal digits, the numbers that the signs of a line stand for, and a number in digits: the highest first.
use Rattle.std.specs.Prelude.{◌≡◌, Bool, List, [], ◌∷◌, ◌++◌, ℕ, zero, suc, ◌+◌, ◌-◌, ◌*◌, ◌/◌, ◌%◌, ◌≤◌, ◌<◌, ltb, length, get_or}
use Rattle.std.proofs.Math.Path.{refl}
use Rattle.std.proofs.Common.{◌∙◌, add-one, length-append}
use native.Mathlib.Omega.{arith}
use borrow.Author.Tests.{lt-ltb, le-ltb, ltb-true, ltb-false}
use Rattle.rules.specs.Choice.{pick, picked, passed, either}
use Rattle.tools.specs.Search.{all}

-- the value of a digit, 0 to 9 and a to f; 16 for any other byte
unfoldable pub digit_of : ℕ → ℕ
digit_of b = pick (ltb b 48) 16 (pick (ltb b 58) (b - 48) (pick (ltb b 97) 16 (pick (ltb b 103) (b - 87) 16)))

-- the sign of a digit
unfoldable pub sign_of : ℕ → ℕ
sign_of d = pick (ltb d 10) (48 + d) (87 + d)

abbrev pub is_digit : ℕ → Bool
is_digit b = ltb (digit_of b) 16

-- place i of a line holds a digit
abbrev pub digit_at : List ℕ → ℕ → Bool
digit_at l i = is_digit (get_or l i 0)

unfoldable pub all_digits : List ℕ → Bool
all_digits l = all (digit_at l) 0 (length l)

-- the value of a sign in a number: a digit's, and 0 for any other
abbrev pub value_of : ℕ → ℕ
value_of b = digit_of b % 16

-- the number that n signs stand for, from a place on
unfoldable pub value : List ℕ → ℕ → ℕ → ℕ
value l at zero = 0
value l at (suc n) = value l at n * 16 + value_of (get_or l (at + n) 0)

-- the number in n bytes of a line, from byte k on: two digits a byte
abbrev pub number : List ℕ → ℕ → ℕ → ℕ
number l k n = value l (k * 2) (n * 2)

-- n numbers of eight bytes, from byte k on
unfoldable pub numbers : List ℕ → ℕ → ℕ → List ℕ
numbers l k zero = []
numbers l k (suc n) = number l k 8 ∷ numbers l (k + 8) n

-- the last n digits of a number
unfoldable pub in_hex : ℕ → ℕ → List ℕ
in_hex zero x = []
in_hex (suc n) x = in_hex n (x / 16) ++ sign_of (x % 16) ∷ []

-- ---- digits and their signs
module _ (d : ℕ) where
  pub sign_low : d < 10 → 48 + d ≡ sign_of d
  unfolding sign_of
  sign_low h = picked _ _ _ _ (lt-ltb d 10 h) refl

  pub sign_high : 10 ≤ d → 87 + d ≡ sign_of d
  unfolding sign_of
  sign_high h = passed _ _ _ _ (le-ltb d 10 h) refl

module _ (b : ℕ) where
  pub digit_below : b < 48 → digit_of b ≡ 16
  unfolding digit_of pick
  digit_below h = simp (lt-ltb b 48 h)

  pub digit_low : 48 ≤ b → b < 58 → digit_of b ≡ b - 48
  unfolding digit_of pick
  digit_low g h = simp (le-ltb b 48 g, lt-ltb b 58 h)

  pub digit_between : 58 ≤ b → b < 97 → digit_of b ≡ 16
  unfolding digit_of pick
  digit_between g h = let k : 48 ≤ b = omega arith in simp (le-ltb b 48 k, le-ltb b 58 g, lt-ltb b 97 h)

  pub digit_high : 97 ≤ b → b < 103 → digit_of b ≡ b - 87
  unfolding digit_of pick
  digit_high g h =
      let k : 48 ≤ b = omega arith in
      let m : 58 ≤ b = omega arith in
      simp (le-ltb b 48 k, le-ltb b 58 m, le-ltb b 97 g, lt-ltb b 103 h)

  pub digit_above : 103 ≤ b → digit_of b ≡ 16
  unfolding digit_of pick
  digit_above g =
      let k : 48 ≤ b = omega arith in
      let m : 58 ≤ b = omega arith in
      let n : 97 ≤ b = omega arith in
      simp (le-ltb b 48 k, le-ltb b 58 m, le-ltb b 97 n, le-ltb b 103 g)

  pub digit_most : digit_of b ≤ 16
  digit_most =
      either (ltb b 48) (λ e. let k = digit_below (ltb-true _ _ e) in omega arith) (λ e.
      either (ltb b 58) (λ f. let g : b < 58 = ltb-true _ _ f in let k = digit_low (ltb-false _ _ e) g in omega arith) (λ f.
      either (ltb b 97) (λ g. let k = digit_between (ltb-false _ _ f) (ltb-true _ _ g) in omega arith) (λ g.
      either (ltb b 103) (λ h. let m : b < 103 = ltb-true _ _ h in let k = digit_high (ltb-false _ _ g) m in omega arith) (λ h.
      let k = digit_above (ltb-false _ _ h) in omega arith))))

pub length_hex : (n x : ℕ) → length (in_hex n x) ≡ n
unfolding in_hex
length_hex zero x = refl
length_hex (suc n) x = length-append (in_hex n (x / 16)) (sign_of (x % 16) ∷ []) ∙ rw (length_hex n (x / 16), add-one)
