-- The first n numbers that bytes hold, eight bytes each, the lowest byte first. Past the end of the bytes every byte counts as 0.
use Rattle.std.specs.Prelude.{◌≡◌, List, [], ◌∷◌, ◌++◌, ℕ, zero, suc, ◌+◌, ◌*◌, ◌≤◌, length, set}
use Rattle.std.proofs.Math.Path.{refl}
use Rattle.std.proofs.Common.{◌∙◌, add-one, arith, length-append}
use Rattle.tools.specs.Laid.{laid, laid_one, then}
use Rattle.fip_entries.specs.Numbers.{eight}

unfoldable pub numbers_of : List ℕ → ℕ → List ℕ
numbers_of bytes zero = []
numbers_of bytes (suc n) = numbers_of bytes n ++ eight bytes (8 * n) ∷ []

length_numbers : (bytes : List ℕ) (n : ℕ) → length (numbers_of bytes n) ≡ n
unfolding numbers_of
length_numbers bytes zero = refl
length_numbers bytes (suc n) = length-append (numbers_of bytes n) (eight bytes (8 * n) ∷ []) ∙ rw (length_numbers bytes n) (omega arith)

-- ---- the loop over them
module _ (bytes numbers : List ℕ) where
  pub none_laid : numbers ≡ laid numbers 0 (numbers_of bytes 0)
  unfolding numbers_of laid
  none_laid = refl

  module _ (so : List ℕ) (i : ℕ) (inv : so ≡ laid numbers 0 (numbers_of bytes i)) where
    pub one_laid : (v at : ℕ) → v ≡ eight bytes at → at ≡ 8 * i → set so i v ≡ laid numbers 0 (numbers_of bytes (i + 1))
    unfolding numbers_of
    one_laid v at e f =
        rw (add-one, e, f)
        (then numbers so (set so i (eight bytes (8 * i))) (numbers_of bytes i) (eight bytes (8 * i) ∷ []) 0 i i (length_numbers bytes i) (omega arith) inv
        (laid_one so i (eight bytes (8 * i))))

    pub all_laid : (n : ℕ) → i ≤ n → n ≤ i → so ≡ laid numbers 0 (numbers_of bytes n)
    all_laid n h u = let z : n ≡ i = omega arith in rw z inv
