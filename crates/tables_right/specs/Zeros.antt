-- A count of trailing zero bits says by which power of two a number divides.
use Rattle.std.specs.Prelude.{◌≡◌, refl, ℕ, zero, suc, ◌+◌, ◌*◌, ◌/◌, ◌%◌, ◌^◌, ◌≤◌}
use Rattle.std.proofs.Common.{le_of_suc-le-suc, pow-suc, arith, pow_pos}
use Rattle.std.proofs.Math.Arith.{mod-mul}
use Rattle.std.specs.Int.Count.{count_trailing_zeros, under}

-- the lowest digit, and the others
halves : (n j : ℕ) → n % 2 ^ suc j ≡ (n / 2 % 2 ^ j) * 2 + n % 2
halves n j = rw (pow-suc 2 j) (mod-mul n (pow_pos j) (omega arith))

zeros_divide : (j k n : ℕ) → j ≤ count_trailing_zeros k n → n % 2 ^ j ≡ 0
unfolding count_trailing_zeros
zeros_divide zero k n h = omega arith
zeros_divide (suc j) zero n h = absurd (omega arith)
zeros_divide (suc j) (suc k) n h = go (n % 2) refl h (zeros_divide j k (n / 2))
  where
    go : (r : ℕ) → n % 2 ≡ r → suc j ≤ under r (count_trailing_zeros k (n / 2)) → (j ≤ count_trailing_zeros k (n / 2) → n / 2 % 2 ^ j ≡ 0) → n % 2 ^ suc j ≡ 0
    go zero e l ih = omega (arith, halves n j, ih (le_of_suc-le-suc l))
    go (suc r) e l ih = absurd (omega arith)

divide_zeros : (j k n : ℕ) → j ≤ k → n % 2 ^ j ≡ 0 → j ≤ count_trailing_zeros k n
unfolding count_trailing_zeros
divide_zeros zero k n l h = omega arith
divide_zeros (suc j) zero n l h = absurd (omega arith)
divide_zeros (suc j) (suc k) n l h =
    let e : n % 2 ≡ 0 = omega (arith, halves n j) in
    let f : n / 2 % 2 ^ j ≡ 0 = omega (arith, halves n j) in
    let i = divide_zeros j k (n / 2) (le_of_suc-le-suc l) f in
    rw e (omega arith)

-- 21 of them are a multiple of 2 MiB, 0 among these
pub zeros_slot : (n : ℕ) → 21 ≤ count_trailing_zeros 64 n → n % 2097152 ≡ 0
zeros_slot n h = zeros_divide 21 64 n h

pub slot_zeros : (n : ℕ) → n % 2097152 ≡ 0 → 21 ≤ count_trailing_zeros 64 n
slot_zeros n h = divide_zeros 21 64 n (omega arith) h
