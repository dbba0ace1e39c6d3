-- How many numbers of a range pass a test: between bounds, by either of two tests, and by one of a list's.
use Rattle.std.specs.Prelude.{◌≡◌, Bool, true, false, ◌||◌, List, [], ◌∷◌, leb, ltb}
use Prim.Native.Nat.{ℕ, zero, suc, ◌+◌, ◌-◌, ◌≤◌, ◌<◌}
use native.Mathlib.Omega.{arith}
use borrow.Author.Tests.{leb-true, leb-false, ltb-true, ltb-false}
use Rattle.rules.specs.Choice.{either}
use Rattle.tools.specs.Count.{bit, bit_le, count}
use Rattle.mapping.specs.Mapping.{any_of}
use Rattle.ranges.specs.declared.Mapping.{Mapping}

-- a number that passes is counted, and one that does not is not
bit_yes : (b : Bool) → b ≡ true → bit b ≡ 1
unfolding bit
bit_yes b e = rw e

bit_no : (b : Bool) → b ≡ false → bit b ≡ 0
unfolding bit
bit_no b e = rw e

module _ (p : ℕ → Bool) (low high : ℕ) where
  -- only numbers from `low` on and below `high` pass
  module _ (only : (i : ℕ) → p i ≡ true → (low ≤ i) × (i < high)) where
    most_from : (a n : ℕ) → count p a n ≤ high - a
    unfolding count
    most_from a zero = omega arith
    most_from a (suc n) =
        let rest = most_from (suc a) n in
        either (p a) (λ y. let o = only a y in let u = bit_yes (p a) y in omega arith) (λ k. let u = bit_no (p a) k in omega arith)

    pub count_most : (a n : ℕ) → count p a n ≤ high - low
    unfolding count
    count_most a zero = omega arith
    count_most a (suc n) =
        let from = most_from (suc a) n in
        let rest = count_most (suc a) n in
        either (p a) (λ y. let o = only a y in let u = bit_yes (p a) y in omega arith) (λ k. let u = bit_no (p a) k in omega arith)

  -- all numbers from `low` on and below `high` pass
  module _ (all : (i : ℕ) → low ≤ i → i < high → p i ≡ true) where
    least_from : (a n : ℕ) → high ≤ a + n → high - low - (a - low) ≤ count p a n
    unfolding count
    least_from a zero h = omega arith
    least_from a (suc n) h =
        let rest = least_from (suc a) n (omega arith) in
        either (leb low a)
        (λ y. either (ltb a high)
        (λ z. let u = bit_yes (p a) (all a (leb-true low a y) (ltb-true a high z)) in let v = leb-true low a y in omega arith)
        (λ z. let v = ltb-false a high z in let w = leb-true low a y in omega arith))
        (λ k. let v = leb-false low a k in omega arith)

    pub count_least : (n : ℕ) → high ≤ n → high - low ≤ count p 0 n
    count_least n h = let z = least_from 0 n (omega arith) in omega arith

-- ---- by either of two tests
module _ (p q : ℕ → Bool) where
  bit_either : (i : ℕ) → bit (p i || q i) ≤ bit (p i) + bit (q i)
  unfolding bit
  bit_either i = either (p i) (λ y. rw y (omega arith)) (λ n. rw n (omega arith))

  pub count_either : (a n : ℕ) → count (λ (i : ℕ). p i || q i) a n ≤ count p a n + count q a n
  unfolding count
  count_either a zero = omega arith
  count_either a (suc n) = omega (arith, bit_either a, count_either (suc a) n)

  -- no number passes both
  module _ (apart : (i : ℕ) → p i ≡ true → q i ≡ false) where
    bit_apart : (i : ℕ) → bit (p i) + bit (q i) ≤ bit (p i || q i)
    unfolding bit
    bit_apart i = either (p i) (λ y. rw (y, apart i y) (omega arith)) (λ n. rw n (omega arith))

    pub count_apart : (a n : ℕ) → count p a n + count q a n ≤ count (λ (i : ℕ). p i || q i) a n
    unfolding count
    count_apart a zero = omega arith
    count_apart a (suc n) = omega (arith, bit_apart a, count_apart (suc a) n)

-- what passes one test passes the other
pub count_grows : (p q : ℕ → Bool) → ((i : ℕ) → p i ≡ true → q i ≡ true) → (a n : ℕ) → count p a n ≤ count q a n
unfolding count
count_grows p q h a zero = omega arith
count_grows p q h a (suc n) =
    let rest = count_grows p q h (suc a) n in
    let most = bit_le (p a) in
    either (p a) (λ y. let u = bit_yes (q a) (h a y) in omega arith) (λ k. let u = bit_no (p a) k in omega arith)

-- ---- by one of a list's, and by each of them, added up
unfoldable pub added : (Mapping → ℕ → Bool) → List Mapping → ℕ → ℕ
added t [] n = 0
added t (m ∷ l) n = count (t m) 0 n + added t l n

count_none : (a n : ℕ) → count (λ (i : ℕ). false) a n ≤ 0
unfolding count bit
count_none a zero = omega arith
count_none a (suc n) = omega (arith, count_none (suc a) n)

pub any_added : (t : Mapping → ℕ → Bool) (l : List Mapping) (n : ℕ) → count (λ (i : ℕ). any_of (λ (m : Mapping). t m i) l) 0 n ≤ added t l n
unfolding added any_of
any_added t [] n = count_none 0 n
any_added t (m ∷ l) n = omega (arith, count_either (t m) (λ (i : ℕ). any_of (λ (m : Mapping). t m i) l) 0 n, any_added t l n)
