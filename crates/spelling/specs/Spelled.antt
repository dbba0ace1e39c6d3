-- Numbers as bytes, one behind the other: eight for each, the lowest first.
use Rattle.std.specs.Prelude.{◌≡◌, List, ℕ, zero, suc, ◌+◌, ◌*◌, ◌≤◌, length, get_or}
use Rattle.std.proofs.Math.Path.{refl}
use Rattle.std.proofs.Common.{◌∙◌, add-one, arith, length-append}
use Rattle.tools.specs.Laid.{laid, then}
use Rattle.layout.specs.Rows.{flat}
use Rattle.fip_lay.specs.Bytes.{spell, length_spell}

-- the first n of them
unfoldable pub spelled : List ℕ → ℕ → List ℕ
spelled numbers n = flat (λ (i : ℕ). spell 8 (get_or numbers i 0)) n

pub length_spelled : (numbers : List ℕ) (n : ℕ) → length (spelled numbers n) ≡ 8 * n
unfolding spelled flat
length_spelled numbers zero = refl
length_spelled numbers (suc n) =
    length-append (flat (λ (i : ℕ). spell 8 (get_or numbers i 0)) n) (spell 8 (get_or numbers n 0)) ∙ rw (length_spelled numbers n, length_spell 8 (get_or numbers n 0)) (omega arith)

-- ---- the loop: what is laid so far
module _ (numbers bytes : List ℕ) where
  pub spelling_starts : bytes ≡ laid bytes 0 (spelled numbers 0)
  unfolding laid spelled flat
  spelling_starts = refl

  pub spelling_goes :
      (b b' : List ℕ) (i v at : ℕ) → b ≡ laid bytes 0 (spelled numbers i) → v ≡ get_or numbers i 0 → at ≡ 8 * i → b' ≡ laid b at (spell 8 v) →
      b' ≡ laid bytes 0 (spelled numbers (i + 1))
  unfolding spelled flat
  spelling_goes b b' i v at inv e f h =
      rw (add-one i) (then bytes b b' (spelled numbers i) (spell 8 (get_or numbers i 0)) 0 at (8 * i) (length_spelled numbers i) (omega arith) inv (h ∙ rw e))

  pub spelling_ends : (b : List ℕ) (i : ℕ) → b ≡ laid bytes 0 (spelled numbers i) → 22528 ≤ i → i ≤ 22528 → b ≡ laid bytes 0 (spelled numbers 22528)
  spelling_ends b i inv h u = let z : i ≡ 22528 = omega arith in inv ∙ rw z
