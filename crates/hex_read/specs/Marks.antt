-- The marks of bytes: a digit's value, and more than 15 for any other byte.
use Rattle.std.specs.Prelude.{◌≡◌, ℕ, ◌+◌, ◌-◌, ◌%◌, ◌^◌, ◌<◌, ◌≤◌, Bool, false, ◌&&◌, ltb, nat_lt, refl}
use Rattle.std.proofs.Common.{sym, ◌∙◌, lt-ltb, le-ltb, ltb-true, ltb-false}
use native.Mathlib.Omega.{arith}
use Rattle.rules.specs.Choice.{pick, picked, passed, by, either}
use Rattle.hex_digits.specs.Hex.{digit_of, is_digit, value_of, digit_below, digit_low, digit_between, digit_high, digit_above}

-- as few tests as tell a digit from all else
unfoldable pub mark_of : ℕ → ℕ
mark_of b = pick (nat_lt b 58) ((b + 208) % 256) (pick (nat_lt b 97) 255 (b - 87))

-- ---- the three ranges, as the code tests them
module _ (b r : ℕ) where
  pub mark_low : b < 58 → r < 256 → (r + 48) % 2 ^ 8 ≡ b → r ≡ mark_of b
  unfolding mark_of
  mark_low h g e = picked _ _ _ _ (lt-ltb b 58 h) (omega arith)

  pub mark_middle : 58 ≤ b → b < 97 → 255 ≡ mark_of b
  unfolding mark_of
  mark_middle g h = passed _ _ _ _ (le-ltb b 58 g) (picked _ _ _ _ (lt-ltb b 97 h) refl)

  pub mark_high : 97 ≤ b → b - 87 ≡ mark_of b
  unfolding mark_of
  mark_high g = let k : 58 ≤ b = omega arith in passed _ _ _ _ (le-ltb b 58 k) (passed _ _ _ _ (le-ltb b 97 g) refl)

mark_first : (b : ℕ) → b < 58 → (b + 208) % 256 ≡ mark_of b
unfolding mark_of
mark_first b h = picked _ _ _ _ (lt-ltb b 58 h) refl

-- ---- a mark below 16 is the digit's value, and no other byte has one
Told : ℕ → Type 0
Told b = (mark_of b < 16 → mark_of b ≡ digit_of b) × (16 ≤ mark_of b → digit_of b ≡ 16)

told : (b : ℕ) → Told b
unfolding Told
told b =
    either (nat_lt b 48)
    (λ e. let h : b < 48 = ltb-true _ _ e in let m = mark_first b (omega arith) in let d = digit_below b h in ((λ k. absurd (omega arith)), (λ k. d)))
    (λ e. let h : 48 ≤ b = ltb-false _ _ e in
    either (nat_lt b 58)
    (λ f. let g : b < 58 = ltb-true _ _ f in let m = mark_first b g in let d = digit_low b h g in ((λ k. omega arith), (λ k. absurd (omega arith))))
    (λ f. let g : 58 ≤ b = ltb-false _ _ f in
    either (nat_lt b 97)
    (λ u. let v : b < 97 = ltb-true _ _ u in let m = mark_middle b 0 g v in let d = digit_between b g v in ((λ k. absurd (omega arith)), (λ k. d)))
    (λ u. let v : 97 ≤ b = ltb-false _ _ u in let m = mark_high b 0 v in
    either (nat_lt b 103)
    (λ w. let x : b < 103 = ltb-true _ _ w in let d = digit_high b v x in ((λ k. omega arith), (λ k. absurd (omega arith))))
    (λ w. let x : 103 ≤ b = ltb-false _ _ w in let d = digit_above b x in ((λ k. absurd (omega arith)), (λ k. d))))))

module _ (b : ℕ) where
  mark_is : mark_of b < 16 → mark_of b ≡ digit_of b
  unfolding Told
  mark_is h = (told b).0 h

  mark_none : 16 ≤ mark_of b → digit_of b ≡ 16
  unfolding Told
  mark_none h = (told b).1 h

  -- the test of a mark is the test for a digit
  pub mark_tells : ltb (mark_of b) 16 ≡ is_digit b
  mark_tells =
      either (nat_lt (mark_of b) 16)
      (λ y. let h : mark_of b < 16 = ltb-true _ _ y in y ∙ sym (lt-ltb (digit_of b) 16 (omega (arith, mark_is h))))
      (λ n. let h : 16 ≤ mark_of b = ltb-false _ _ n in n ∙ sym (le-ltb (digit_of b) 16 (omega (arith, mark_none h))))

  -- and it is its value in a number
  pub mark_value : mark_of b < 16 → mark_of b ≡ value_of b
  mark_value h = omega (arith, mark_is h)

-- ---- the larger of two
module _ (a b : ℕ) where
  pub larger_second : a < b → nat_lt b 16 ≡ (nat_lt a 16 && nat_lt b 16)
  larger_second h =
      either (nat_lt b 16)
      (λ y. let g : b < 16 = ltb-true _ _ y in rw (y, lt-ltb a 16 (omega arith)))
      (λ n. rw n (by (λ (t : Bool). false ≡ (t && false)) (nat_lt a 16) (λ e. refl) (λ e. refl)))

  pub larger_first : b ≤ a → nat_lt a 16 ≡ (nat_lt a 16 && nat_lt b 16)
  larger_first h =
      either (nat_lt a 16)
      (λ y. let g : a < 16 = ltb-true _ _ y in rw (y, lt-ltb b 16 (omega arith)))
      (λ n. rw n)

pub ruleset larger_laws = (larger_second, larger_first)
