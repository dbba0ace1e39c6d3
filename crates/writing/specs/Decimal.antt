-- Numbers in decimal digits, with no zero in front.
use Rattle.std.specs.Prelude.{◌≡◌, List, [], ◌∷◌, ◌++◌, ℕ, zero, suc, ◌+◌, ◌-◌, ◌/◌, ◌%◌, ◌^◌, ◌≤◌, ◌<◌, ltb, length}
use Rattle.std.proofs.Common.{pow-suc, arith, length-append, lt-ltb, le-ltb}
use Rattle.std.proofs.Math.Nat.{one-le-pow}
use Rattle.io.specs.Digits.{hex_digit_ascii, last_digits, IsDigitCount}
use Rattle.rules.specs.Choice.{pick, picked, passed, chosen}

-- a number of at most so many digits
unfoldable pub in_decimal : ℕ → ℕ → List ℕ
in_decimal zero x = []
in_decimal (suc m) x = pick (ltb x 10) ((48 + x) ∷ []) (in_decimal m (x / 10) ++ ((48 + x % 10) ∷ []))

-- a number below 2 ^ 64
abbrev pub decimal_text : ℕ → List ℕ
decimal_text x = in_decimal 20 x

-- ---- the fewest digits that hold a number are those of its text
glyph_low : (d : ℕ) → d < 10 → hex_digit_ascii d ≡ 48 + d
glyph_low d h = rw (lt-ltb d 10 h)

pub decimal_is : (m r x : ℕ) → r ≤ m → IsDigitCount 10 1 x r → last_digits 10 r x ≡ in_decimal m x
unfolding in_decimal
decimal_is zero r x h f = absurd (omega (arith, f.0))
decimal_is (suc m) zero x h f = absurd (omega (arith, f.0))
decimal_is (suc m) (suc zero) x h f =
    let l : x < 10 = f.1 in
    let e : x % 10 ≡ x = omega arith in
    picked _ _ _ _ (lt-ltb x 10 l) (rw (e, glyph_low x l))
decimal_is (suc m) (suc (suc r)) x h f =
    let p = pow-suc 10 (suc r) in
    let q = pow-suc 10 r in
    let o = one-le-pow r 10 (omega arith) in
    let w : suc (suc r) - 1 ≡ suc r = omega arith in
    let w' : suc r - 1 ≡ r = omega arith in
    let g : 10 ^ suc r ≤ x = rw w at (f.2 (omega arith)) in
    let u : 10 ≤ x = omega arith in
    let v : x % 10 < 10 = omega arith in
    let below : x / 10 < 10 ^ suc r = omega (arith, f.1) in
    let above : 10 ^ r ≤ x / 10 = omega arith in
    passed _ _ _ _ (le-ltb x 10 u)
    (rw (glyph_low (x % 10) v, decimal_is m (suc r) (x / 10) (omega arith) (omega arith, below, λ z. rw w' above)))

-- ---- no number has more digits than that
decimal_few : (m x : ℕ) → length (in_decimal m x) ≤ m
unfolding in_decimal
decimal_few zero x = omega arith
decimal_few (suc m) x =
    chosen (λ (l : List ℕ). length l ≤ suc m) (ltb x 10) _ _ (λ y. omega arith)
    (λ n. omega (arith, length-append (in_decimal m (x / 10)) ((48 + x % 10) ∷ []), decimal_few m (x / 10)))

pub decimal_short : (x : ℕ) → length (decimal_text x) ≤ 20
decimal_short x = decimal_few 20 x
