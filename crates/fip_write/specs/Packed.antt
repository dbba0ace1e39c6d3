-- The package that the writer lays out, byte by byte, for a plan d of its images.
use Rattle.std.specs.Prelude.{◌≡◌, refl, List, [], ◌++◌, ℕ, zero, suc, ◌+◌, ◌-◌, ◌*◌, ◌≤◌, ◌<◌, length}
use Rattle.std.proofs.Common.{◌∙◌, add-one, arith, length-append}
use Rattle.fip_entries.specs.Entries.{entry, offset, size}
use Rattle.fip_table.specs.Table.{table_end}
use Rattle.fip_lay.specs.Bytes.{spell, copied, length_spell, length_copied}
use Rattle.fip_plan.specs.Plan.{sizes, total}

-- name, serial number, flags
unfoldable pub header : ℕ → ℕ → List ℕ
header serial flags = spell 4 0xaa640001 ++ (spell 4 serial ++ spell 8 flags)

-- the entry of image k: its identifier, where it will lie, its size and flags
unfoldable pub row : List ℕ → ℕ → ℕ → List ℕ
row d k at = copied d (entry k) 16 ++ (spell 8 at ++ copied d (entry k + 24) 16)

-- the entries of n images from image k on, which lie one behind the other from `at` on
unfoldable pub rows : List ℕ → ℕ → ℕ → ℕ → List ℕ
rows d k zero at = []
rows d k (suc n) at = row d k at ++ rows d (suc k) n (at + size d k)

-- the end entry: zero but for its offset, the package's length
unfoldable pub ending : ℕ → List ℕ
ending length = spell 16 0 ++ (spell 8 length ++ spell 16 0)

-- the bytes of n images from image k on
unfoldable pub images : List ℕ → List ℕ → ℕ → ℕ → List ℕ
images d pool k zero = []
images d pool k (suc n) = copied pool (offset d k) (size d k) ++ images d pool (suc k) n

-- header, entries, end entry and images, with no gap
unfoldable pub packed : ℕ → ℕ → List ℕ → List ℕ → ℕ → List ℕ
packed serial flags d pool n = header serial flags ++ (rows d 0 n (table_end n) ++ (ending (total d n) ++ images d pool 0 n))

-- ---- how long the parts are
pub length_header : (serial flags : ℕ) → length (header serial flags) ≡ 16
unfolding header
length_header serial flags = simp (length-append, length_spell)

pub length_row : (d : List ℕ) (k at : ℕ) → length (row d k at) ≡ 40
unfolding row
length_row d k at = simp (length-append, length_copied, length_spell)

pub length_rows : (d : List ℕ) (k n at : ℕ) → length (rows d k n at) ≡ 40 * n
unfolding rows
length_rows d k zero at = refl
length_rows d k (suc n) at =
    let r = length_rows d (suc k) n (at + size d k) in
    length-append (row d k at) (rows d (suc k) n (at + size d k)) ∙ (omega (arith, length_row d k at))

pub length_ending : (whole : ℕ) → length (ending whole) ≡ 40
unfolding ending
length_ending whole = simp (length-append, length_spell)

pub length_images : (d pool : List ℕ) (k n : ℕ) → length (images d pool k n) ≡ sizes d k n
unfolding images sizes
length_images d pool k zero = refl
length_images d pool k (suc n) =
    let r = length_images d pool (suc k) n in
    length-append (copied pool (offset d k) (size d k)) (images d pool (suc k) n) ∙ (omega (arith, length_copied pool (offset d k) (size d k)))

pub length_packed : (serial flags : ℕ) (d pool : List ℕ) (n : ℕ) → length (packed serial flags d pool n) ≡ total d n
unfolding packed total table_end
length_packed serial flags d pool n =
    simp (length-append, length_header, length_rows, length_ending, length_images) (omega arith)

-- ---- the first of what is left, where something is left
one_less : (n : ℕ) → suc n - 1 ≡ n
one_less n = omega arith

pub rows_next : (d : List ℕ) (k n at : ℕ) → 0 < n → rows d k n at ≡ row d k at ++ rows d (k + 1) (n - 1) (at + size d k)
unfolding rows
rows_next d k zero at h = absurd (omega arith)
rows_next d k (suc n) at h = rw (one_less n, add-one)

pub images_next : (d pool : List ℕ) (k n : ℕ) → 0 < n → images d pool k n ≡ copied pool (offset d k) (size d k) ++ images d pool (k + 1) (n - 1)
unfolding images
images_next d pool k zero h = absurd (omega arith)
images_next d pool k (suc n) h = rw (one_less n, add-one)

-- ---- nothing is left
pub rows_none : (d : List ℕ) (k n at : ℕ) → n ≤ 0 → rows d k n at ≡ []
unfolding rows
rows_none d k zero at h = refl
rows_none d k (suc n) at h = absurd (omega arith)

pub images_none : (d pool : List ℕ) (k n : ℕ) → n ≤ 0 → images d pool k n ≡ []
unfolding images
images_none d pool k zero h = refl
images_none d pool k (suc n) h = absurd (omega arith)
