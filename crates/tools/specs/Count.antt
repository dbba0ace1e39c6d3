-- How many of n numbers from a on pass a test.
use Rattle.std.specs.Prelude.{◌≡◌, refl, Bool, true, false}
use Rattle.std.proofs.Math.Logic.{⊎_elim}
use Prim.Native.Nat.{ℕ, zero, suc, ◌+◌, ◌≤◌, ◌<◌}
use Rattle.std.proofs.Common.{eq-or-lt_of_le}
use native.Mathlib.Omega.{arith}
use Rattle.rules.specs.Choice.{either}

-- a test as a binary digit
unfoldable pub bit : Bool → ℕ
bit true = 1
bit false = 0

unfoldable pub count : (ℕ → Bool) → ℕ → ℕ → ℕ
count p a zero = 0
count p a (suc n) = bit (p a) + count p (suc a) n

pub bit_le : (b : Bool) → bit b ≤ 1
unfolding bit
bit_le true = omega arith
bit_le false = omega arith

pub count_le : (p : ℕ → Bool) (a n : ℕ) → count p a n ≤ n
unfolding count
count_le p a zero = omega arith
count_le p a (suc n) = omega (arith, bit_le (p a), count_le p (suc a) n)

-- what passes one test passes the other
module _ (p q : ℕ → Bool) (passes : (k : ℕ) → p k ≡ true → q k ≡ true) where
  bit_grows : (k : ℕ) → bit (p k) ≤ bit (q k)
  unfolding bit
  bit_grows k = either (p k) (λ y. rw (y, passes k y) (omega arith)) (λ n. rw n (omega arith))

  count_grows : (a n : ℕ) → count p a n ≤ count q a n
  unfolding count
  count_grows a zero = omega arith
  count_grows a (suc n) = omega (arith, bit_grows a, count_grows (suc a) n)

  -- and there is one that passes the other alone
  pub count_more : (a n k : ℕ) → p k ≡ false → q k ≡ true → a ≤ k → k < a + n → count p a n < count q a n
  unfolding count bit
  count_more a zero k e f h l = absurd (omega arith)
  count_more a (suc n) k e f h l =
      ⊎_elim
      (λ (z : a ≡ k). rw (z, e, f) (omega (arith, count_grows (suc k) n)))
      (λ (z : a < k). omega (arith, bit_grows a, count_more (suc a) n k e f (omega arith) (omega arith)))
      (eq-or-lt_of_le h)

-- where one fails not all are counted
pub count_short : (p : ℕ → Bool) (a n k : ℕ) → p k ≡ false → a ≤ k → k < a + n → count p a n < n
count_short p a n k e h l =
    let every : ℕ → Bool = λ j. true in
    omega (arith, count_more p every (λ j f. refl) a n k e refl h l, count_le every a n)
