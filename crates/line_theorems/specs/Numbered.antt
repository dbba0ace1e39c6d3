-- How many signs the number of a line takes: six, and a sign more for each digit past the sixth.
use Rattle.std.specs.Prelude.{◌≡◌, refl, [], ◌∷◌, ◌++◌, ℕ, zero, suc, ◌+◌, ◌-◌, ◌/◌, ◌%◌, ◌^◌, ◌≤◌, ◌<◌, ltb, length}
use Rattle.std.proofs.Common.{pow-suc, length-take-le, lt-ltb, le-ltb, ltb-true, ltb-false}
use native.Mathlib.Omega.{arith}
use Rattle.std.proofs.Math.ListN.{length-append}
use Rattle.rules.specs.Choice.{pick, picked, passed, either, pick_yes, pick_no}
use Rattle.writing.specs.Decimal.{in_decimal, decimal_text}
use Rattle.writing.specs.Put.{row, blanks}
use Rattle.phrases.specs.Text.{indent, right_text}

-- the digits past the sixth
abbrev pub past : ℕ → ℕ
past n = length (decimal_text n) - 6

-- ---- digits
pub digits_low : (m x : ℕ) → x < 10 → length (in_decimal (suc m) x) ≡ 1
unfolding in_decimal
digits_low m x h = rw (pick_yes _ ((48 + x) ∷ []) (in_decimal m (x / 10) ++ ((48 + x % 10) ∷ [])) (lt-ltb x 10 h))

digits_high : (m x : ℕ) → 10 ≤ x → length (in_decimal (suc m) x) ≡ length (in_decimal m (x / 10)) + 1
unfolding in_decimal
digits_high m x h =
    rw (pick_no _ ((48 + x) ∷ []) (in_decimal m (x / 10) ++ ((48 + x % 10) ∷ [])) (le-ltb x 10 h)) (length-append (in_decimal m (x / 10)) ((48 + x % 10) ∷ []))

digits_some : (m x : ℕ) → 1 ≤ length (in_decimal (suc m) x)
digits_some m x = either (ltb x 10) (λ y. omega (arith, digits_low m x (ltb-true x 10 y))) (λ n. omega (arith, digits_high m x (ltb-false x 10 n)))

pub digits_below : (k m x : ℕ) → x < 10 ^ suc k → length (in_decimal m x) ≤ suc k
unfolding in_decimal
digits_below k zero x h = omega arith
digits_below zero (suc m) x h = omega (arith, digits_low m x h)
digits_below (suc k) (suc m) x h =
    let p = pow-suc 10 (suc k) in
    either (ltb x 10) (λ y. omega (arith, digits_low m x (ltb-true x 10 y)))
    (λ n. omega (arith, digits_high m x (ltb-false x 10 n), digits_below k m (x / 10) (omega (arith, p, h))))

-- up to line 999,999 there is none
pub past_none : (n : ℕ) → n < 1000000 → past n ≡ 0
past_none n h = omega (arith, digits_below 5 20 n h)

-- ---- how many blanks stand before a number, by its size
module _ (x : ℕ) where
  indent_five : x < 10 → 5 ≡ indent x
  unfolding indent
  indent_five h = picked _ _ _ _ (lt-ltb x 10 h) refl

  module _ (more : 10 ≤ x) where
    past_one : (a b n : ℕ) → n ≡ b → n ≡ pick (ltb x 10) a b
    past_one a b n e = passed _ _ _ _ (le-ltb x 10 more) e

    indent_four : x < 100 → 4 ≡ indent x
    unfolding indent
    indent_four h = past_one _ _ _ (picked _ _ _ _ (lt-ltb x 100 h) refl)

    indent_three : 100 ≤ x → x < 1000 → 3 ≡ indent x
    unfolding indent
    indent_three g h = past_one _ _ _ (passed _ _ _ _ (le-ltb x 100 g) (picked _ _ _ _ (lt-ltb x 1000 h) refl))

    indent_two : 1000 ≤ x → x < 10000 → 2 ≡ indent x
    unfolding indent
    indent_two g h = past_one _ _ _ (passed _ _ _ _ (le-ltb x 100 (omega arith)) (passed _ _ _ _ (le-ltb x 1000 g) (picked _ _ _ _ (lt-ltb x 10000 h) refl)))

    indent_one : 10000 ≤ x → x < 100000 → 1 ≡ indent x
    unfolding indent
    indent_one g h =
        past_one _ _ _ (passed _ _ _ _ (le-ltb x 100 (omega arith)) (passed _ _ _ _ (le-ltb x 1000 (omega arith)) (passed _ _ _ _ (le-ltb x 10000 g) (picked _ _ _ _ (lt-ltb x 100000 h) refl))))

    indent_none : 100000 ≤ x → 0 ≡ indent x
    unfolding indent
    indent_none g =
        past_one _ _ _ (passed _ _ _ _ (le-ltb x 100 (omega arith)) (passed _ _ _ _ (le-ltb x 1000 (omega arith)) (passed _ _ _ _ (le-ltb x 10000 (omega arith)) (passed _ _ _ _ (le-ltb x 100000 g) refl))))

-- ---- the room
pub blanks_long : (n : ℕ) → n ≤ 96 → length (blanks n) ≡ n
unfolding blanks row
blanks_long n h = length-take-le n row (omega arith)

module _ (n : ℕ) where
  -- so many blanks and so many digits
  room_by : (b d : ℕ) → b ≡ indent n → b ≤ 5 → length (decimal_text n) ≡ d → b + d ≡ 6 + (d - 6) → length (right_text 0 n) ≡ 6 + past n
  unfolding right_text
  room_by b d e h f g =
      let z : indent n - 0 ≡ b = omega arith in
      omega (arith, length-append (blanks (indent n - 0)) (decimal_text n), z, blanks_long (indent n - 0) (omega arith), f, g)

  pub number_room : length (right_text 0 n) ≡ 6 + past n
  number_room =
      either (ltb n 10) (λ y. let h = ltb-true n 10 y in room_by 5 1 (indent_five n h) (omega arith) (digits_low 19 n h) refl)
      (λ z. let a = ltb-false n 10 z in
      let d1 = digits_high 19 n a in
      either (ltb n 100) (λ y. let h = ltb-true n 100 y in room_by 4 2 (indent_four n a h) (omega arith) (omega (arith, d1, digits_low 18 (n / 10) (omega arith))) refl)
      (λ z. let b = ltb-false n 100 z in
      let d2 = digits_high 18 (n / 10) (omega arith) in
      either (ltb n 1000) (λ y. let h = ltb-true n 1000 y in room_by 3 3 (indent_three n a b h) (omega arith) (omega (arith, d1, d2, digits_low 17 (n / 10 / 10) (omega arith))) refl)
      (λ z. let c = ltb-false n 1000 z in
      let d3 = digits_high 17 (n / 10 / 10) (omega arith) in
      either (ltb n 10000) (λ y. let h = ltb-true n 10000 y in room_by 2 4 (indent_two n a c h) (omega arith) (omega (arith, d1, d2, d3, digits_low 16 (n / 10 / 10 / 10) (omega arith))) refl)
      (λ z. let e = ltb-false n 10000 z in
      let d4 = digits_high 16 (n / 10 / 10 / 10) (omega arith) in
      either (ltb n 100000)
      (λ y. let h = ltb-true n 100000 y in room_by 1 5 (indent_one n a e h) (omega arith) (omega (arith, d1, d2, d3, d4, digits_low 15 (n / 10 / 10 / 10 / 10) (omega arith))) refl)
      (λ z. let f = ltb-false n 100000 z in
      let d5 = digits_high 15 (n / 10 / 10 / 10 / 10) (omega arith) in
      let d = length (decimal_text n) in
      let many : 6 ≤ d = omega (arith, d1, d2, d3, d4, d5, digits_some 14 (n / 10 / 10 / 10 / 10 / 10)) in
      room_by 0 d (indent_none n a f) (omega arith) refl (omega arith))))))
