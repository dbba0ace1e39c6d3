-- The mask that has a one for each of n numbers from a on that passes a test, the lowest number lowest, and how many those are.
use Rattle.std.specs.Prelude.{◌≡◌, Bool, true, false}
use Rattle.std.proofs.Math.Path.{refl, ap}
use Rattle.std.proofs.Common.{◌∙◌, pow-suc}
use Prim.Native.Nat.{ℕ, zero, suc, ◌+◌, ◌*◌, ◌/◌, ◌%◌, ◌^◌, ◌≤◌, ◌<◌}
use native.Mathlib.Omega.{arith}
use Rattle.std.specs.Int.Count.{ones, ones_step}
unfoldable pub use Rattle.tools.specs.Count.{bit, count}
pub use Rattle.tools.specs.Count.{bit_le, count_le}

unfoldable pub mask : (ℕ → Bool) → ℕ → ℕ → ℕ
mask p a zero = 0
mask p a (suc n) = bit (p a) + 2 * mask p (suc a) n

pub bit_yes : (b : Bool) → b ≡ true → 1 ≡ bit b
unfolding bit
bit_yes b e = rw e

pub bit_no : (b : Bool) → b ≡ false → 0 ≡ bit b
unfolding bit
bit_no b e = rw e

pub ruleset digits = (bit_yes, bit_no)

-- ---- the ones of a mask are counted digit by digit
ones_digit : (d m : ℕ) → d ≤ 1 → ones (d + 2 * m) ≡ d + ones m
ones_digit d m h =
    let low : (d + 2 * m) % 2 ≡ d = omega arith in
    let rest : (d + 2 * m) / 2 ≡ m = omega arith in
    rw (ones_step (d + 2 * m), low, rest)

module _ (p : ℕ → Bool) where
  pub ones_mask : (a n : ℕ) → ones (mask p a n) ≡ count p a n
  unfolding mask count ones
  ones_mask a zero = refl
  ones_mask a (suc n) =
      ones_digit (bit (p a)) (mask p (suc a) n) (bit_le (p a)) ∙ ap (λ (k : ℕ). bit (p a) + k) (ones_mask (suc a) n)

  pub mask_fits : (a n : ℕ) → mask p a n < 2 ^ n
  unfolding mask
  mask_fits a zero = omega arith
  mask_fits a (suc n) = rw (pow-suc 2 n) (omega (arith, bit_le (p a), mask_fits (suc a) n))
