-- How the parts of a package are laid, one behind the other.
use Rattle.std.specs.Prelude.{◌≡◌, List, ℕ, ◌+◌, ◌-◌, ◌*◌, ◌≤◌, ◌<◌}
use Rattle.std.proofs.Math.Path.{refl}
use Rattle.std.proofs.Common.{◌∙◌, arith}
use Rattle.tools.specs.Laid.{laid, then}
use Rattle.fip_entries.specs.Entries.{entry, offset, size, zeros}
use Rattle.fip_table.specs.Table.{table_end}
use Rattle.fip_lay.specs.Bytes.{spell, copied, entry_of, length_spell, length_copied}
use Rattle.fip_lay.specs.Laying.{Laying, laying_starts, laying_goes, laying_ends, three}
use Rattle.fip_plan.specs.Plan.{total}
use Rattle.fip_write.specs.Packed.{header, row, rows, ending, images, packed, length_header, length_row, length_rows, length_ending, rows_next, images_next, rows_none, images_none}

-- ---- the loops, which have laid k of n images or their entries
module _ (o w p : List ℕ) (at n : ℕ) (d pool : List ℕ) (k : ℕ) (i : Laying o w p at (images d pool k (n - k))) where
  pub images_go :
      (p' : List ℕ) (from z : ℕ) → from ≡ offset d k → z ≡ size d k → p' ≡ laid p at (copied pool from z) → k < n →
      Laying o w p' (at + z) (images d pool (k + 1) (n - (k + 1)))
  images_go p' from z e f g h =
      let y : n - (k + 1) ≡ n - k - 1 = omega arith in
      rw y
      (laying_goes _ _ _ _ _ i _ (copied pool from z) _ _ (images_next d pool k (n - k) (omega arith) ∙ rw (e, f)) (rw (length_copied pool from z)) g)

  pub images_end : n ≤ k → p ≡ w
  images_end h = laying_ends _ _ _ _ _ i (images_none d pool k (n - k) (omega arith))

module _ (o w p d : List ℕ) (k n start : ℕ) (i : Laying o w p (16 + 40 * k) (rows d k (n - k) start)) where
  pub rows_go :
      (p' : List ℕ) (z : ℕ) → z ≡ size d k → p' ≡ laid p (16 + 40 * k) (row d k start) → k < n →
      Laying o w p' (16 + 40 * (k + 1)) (rows d (k + 1) (n - (k + 1)) (start + z))
  rows_go p' z e g h =
      let y : n - (k + 1) ≡ n - k - 1 = omega arith in
      let l = length_row d k start in
      rw y (laying_goes _ _ _ _ _ i _ (row d k start) _ _ (rows_next d k (n - k) start (omega arith) ∙ rw e) (omega arith) g)

  pub rows_end : n ≤ k → p ≡ w
  rows_end h = laying_ends _ _ _ _ _ i (rows_none d k (n - k) start (omega arith))

module _ (o d : List ℕ) (n at : ℕ) (e : at ≡ table_end n) where
  all_left : n - 0 ≡ n
  all_left = omega arith

  pub rows_start : Laying o (laid o 16 (rows d 0 n (table_end n))) o (16 + 40 * 0) (rows d 0 (n - 0) at)
  rows_start = rw (e, all_left) (laying_starts o 16 (rows d 0 n (table_end n)))

  pub images_start : (pool : List ℕ) → Laying o (laid o (table_end n) (images d pool 0 n)) o at (images d pool 0 (n - 0))
  images_start pool = rw (e, all_left) (laying_starts o (table_end n) (images d pool 0 n))

-- ---- parts one behind the other
module _ (o o₁ o₂ p : List ℕ) where
  pub header_laid :
      (serial flags : ℕ) → o₁ ≡ laid o 0 (spell 4 0xaa640001) → o₂ ≡ laid o₁ 4 (spell 4 serial) → p ≡ laid o₂ 8 (spell 8 flags) → p ≡ laid o 0 (header serial flags)
  unfolding header
  header_laid serial flags = three o o₁ o₂ p _ _ _ 0 4 8 4 4 (length_spell 4 0xaa640001) (length_spell 4 serial) refl refl

  pub row_laid :
      (at : ℕ) (d : List ℕ) (k start : ℕ) → o₁ ≡ laid o at (copied d (entry k) 16) → o₂ ≡ laid o₁ (at + 16) (spell 8 start) → p ≡ laid o₂ (at + 24) (copied d (entry k + 24) 16) →
      p ≡ laid o at (row d k start)
  unfolding row
  row_laid at d k start = three o o₁ o₂ p _ _ _ at (at + 16) (at + 24) 16 8 (length_copied d (entry k) 16) (length_spell 8 start) refl (omega arith)

  pub packed_laid :
      (q d pool : List ℕ) (serial flags n whole : ℕ) → whole ≡ total d n → o₁ ≡ laid o 0 (header serial flags) → o₂ ≡ laid o₁ 16 (rows d 0 n (table_end n)) →
      p ≡ laid o₂ (16 + 40 * n) (ending whole) → q ≡ laid p (table_end n) (images d pool 0 n) → q ≡ laid o 0 (packed serial flags d pool n)
  unfolding packed table_end
  packed_laid q d pool serial flags n whole e w x y z =
      then o o₁ q (header serial flags) _ 0 16 16 (length_header serial flags) refl w
      (three o₁ o₂ p q (rows d 0 n (table_end n)) (ending (total d n)) (images d pool 0 n) 16 (16 + 40 * n) (table_end n) (40 * n) 40 (length_rows d 0 n (table_end n)) (length_ending (total d n)) refl (omega arith) x (y ∙ rw e) z)

-- the end entry has the identifier of zeros, and no size or flags
ending_is : (whole : ℕ) → entry_of (copied zeros 0 16) whole 0 0 ≡ ending whole
unfolding entry_of ending spell copied
ending_is whole = refl

pub ending_laid : (o p : List ℕ) (at whole : ℕ) → p ≡ laid o at (entry_of (copied zeros 0 16) whole 0 0) → p ≡ laid o at (ending whole)
ending_laid o p at whole e = e ∙ rw (ending_is whole)
