-- What stands where in the package that the writer lays out.
use Rattle.std.specs.Prelude.{◌≡◌, List, ◌++◌, ℕ, zero, suc, ◌+◌, ◌*◌, ◌≤◌, ◌<◌, length}
use Rattle.std.proofs.Math.Path.{refl}
use Rattle.std.proofs.Common.{ap, ◌∙◌}
use native.Mathlib.Omega.{arith}
use Rattle.fip_entries.specs.Entries.{entry, offset, size, flags}
use Rattle.fip_table.specs.Table.{table_end}
use Rattle.fip_read.specs.Reading.{behind}
use Rattle.fip_lay.specs.Bytes.{spell, copied, length_spell, length_copied}
use Rattle.fip_plan.specs.Plan.{sizes, total}
use Rattle.fip_write.specs.Packed.{header, row, rows, ending, images, packed, length_header, length_row, length_rows, length_ending}
use Rattle.fip_theorems.specs.Statements.{Entry, place}
use Rattle.fip_theorems.specs.Bytes.{copied_front, copied_past, copied_drop, copied_in, copied_whole, number, eight_number}

-- ---- two parts put together
module _ (s t : List ℕ) (m : ℕ) (e : length s ≡ m) where
  -- the first, whole
  pub first_part : copied (s ++ t) 0 m ≡ s
  first_part = copied_front s t 0 m (omega arith) ∙ copied_whole s m e

  -- bytes of the second
  pub second_part : (w : List ℕ) (at a n : ℕ) → at ≡ m + a → copied t a n ≡ w → copied (s ++ t) at n ≡ w
  second_part w at a n f g = rw f (copied_past s t a n m e ∙ g)

-- ---- three parts: a header or an entry
pub record Three (s x y z : List ℕ) (a b c : ℕ) : Type 0 where
  pub first : copied s 0 a ≡ x
  pub second : copied s a b ≡ y
  pub third : copied s (a + b) c ≡ z

pub three : (x y z : List ℕ) (a b c : ℕ) → length x ≡ a → length y ≡ b → length z ≡ c → Three (x ++ (y ++ z)) x y z a b c
three x y z a b c e f g =
    record {
      first = first_part x (y ++ z) a e;
      second = second_part x (y ++ z) a e y a 0 b (omega arith) (first_part y z b f);
      third = second_part x (y ++ z) a e z (a + b) b c refl (second_part y z b f z b 0 c (omega arith) (copied_whole z c g));
    }

pub header_parts : (serial flags : ℕ) → Three (header serial flags) (spell 4 0xaa640001) (spell 4 serial) (spell 8 flags) 4 4 8
unfolding header
header_parts serial flags = three _ _ _ 4 4 8 (length_spell 4 0xaa640001) (length_spell 4 serial) (length_spell 8 flags)

pub row_parts : (d : List ℕ) (k at : ℕ) → Three (row d k at) (copied d (entry k) 16) (spell 8 at) (copied d (entry k + 24) 16) 16 8 16
unfolding row
row_parts d k at = three _ _ _ 16 8 16 (length_copied d (entry k) 16) (length_spell 8 at) (length_copied d (entry k + 24) 16)

pub ending_parts : (l : ℕ) → Three (ending l) (spell 16 0) (spell 8 l) (spell 16 0) 16 8 16
unfolding ending
ending_parts l = three _ _ _ 16 8 16 (length_spell 16 0) (length_spell 8 l) (length_spell 16 0)

-- the fields of an entry whose three parts are these
pub entry_of_lem : (t w x y z : List ℕ) (k : ℕ) → copied t (entry k) 40 ≡ w → Three w x y z 16 8 16 → Entry t k x (number y) (number (copied z 0 8)) (number (copied z 8 8))
unfolding offset size flags
entry_of_lem t w x y z k e r =
    let part : (i n : ℕ) → i + n ≤ 40 → copied t (entry k + i) n ≡ copied w i n = λ i n h. copied_in t w (entry k) 40 i n e h in
    let o : entry k + 0 ≡ entry k = omega arith in
    record {
      has_identifier = rw (← o) (part 0 16 (omega arith) ∙ r.first);
      has_offset = eight_number t (entry k + 16) ∙ ap number (part 16 8 (omega arith) ∙ r.second);
      has_size = eight_number t (entry k + 24) ∙ ap number (part 24 8 (omega arith) ∙ copied_in w z 24 16 0 8 r.third (omega arith));
      has_flags = eight_number t (entry k + 32) ∙ ap number (part 32 8 (omega arith) ∙ copied_in w z 24 16 8 8 r.third (omega arith));
    }

-- ---- entries and images, one behind the other
-- entry j: its image lies behind the j images before it
rows_at : (d : List ℕ) (k n at j : ℕ) → j < n → copied (rows d k n at) (entry j) 40 ≡ row d (k + j) (at + sizes d k j)
unfolding rows sizes
rows_at d k zero at j h = absurd (omega arith)
rows_at d k (suc n) at zero h =
    let x : k + 0 ≡ k = omega arith in
    let y : at + 0 ≡ at = omega arith in
    rw (x, y) (first_part (row d k at) (rows d (suc k) n (at + size d k)) 40 (length_row d k at))
rows_at d k (suc n) at (suc j) h =
    let x : k + suc j ≡ suc k + j = omega arith in
    let y : at + (size d k + sizes d (suc k) j) ≡ at + size d k + sizes d (suc k) j = omega arith in
    rw (x, y)
    (second_part (row d k at) (rows d (suc k) n (at + size d k)) 40 (length_row d k at) _ (entry (suc j)) (entry j) 40 (omega arith)
    (rows_at d (suc k) n (at + size d k) j (omega arith)))

-- image j
images_at : (d pool : List ℕ) (k n j : ℕ) → j < n → copied (images d pool k n) (sizes d k j) (size d (k + j)) ≡ copied pool (offset d (k + j)) (size d (k + j))
unfolding images sizes
images_at d pool k zero j h = absurd (omega arith)
images_at d pool k (suc n) zero h =
    let x : k + 0 ≡ k = omega arith in
    rw x (first_part (copied pool (offset d k) (size d k)) (images d pool (suc k) n) (size d k) (length_copied pool (offset d k) (size d k)))
images_at d pool k (suc n) (suc j) h =
    let x : k + suc j ≡ suc k + j = omega arith in
    rw x
    (second_part (copied pool (offset d k) (size d k)) (images d pool (suc k) n) (size d k) (length_copied pool (offset d k) (size d k)) _ _ (sizes d (suc k) j) (size d (suc k + j)) refl
    (images_at d pool (suc k) n j (omega arith)))

-- it ends where the next one begins, and so before all that follow
pub sizes_to : (d : List ℕ) (k n j : ℕ) → j < n → sizes d k j + size d (k + j) ≤ sizes d k n
unfolding sizes
sizes_to d k zero j h = absurd (omega arith)
sizes_to d k (suc n) zero h = let x : k + 0 ≡ k = omega arith in rw x (omega arith)
sizes_to d k (suc n) (suc j) h =
    let x : k + suc j ≡ suc k + j = omega arith in
    rw x (omega (arith, sizes_to d (suc k) n j (omega arith)))

-- ---- the whole package
module _ (serial flags : ℕ) (d pool : List ℕ) (n : ℕ) where
  abbrev p : List ℕ
  p = packed serial flags d pool n

  abbrev table : List ℕ
  table = rows d 0 n (table_end n)

  abbrev rest : List ℕ
  rest = ending (total d n) ++ images d pool 0 n

  pub packed_header : copied p 0 16 ≡ header serial flags
  unfolding packed
  packed_header = first_part (header serial flags) (table ++ rest) 16 (length_header serial flags)

  -- behind the header the entries, and behind them the rest
  in_behind : (a m : ℕ) → copied (behind p) a m ≡ copied (table ++ rest) a m
  unfolding packed
  in_behind a m = copied_drop p 16 a m ∙ copied_past (header serial flags) (table ++ rest) a m 16 (length_header serial flags)

  pub packed_row : (k : ℕ) → k < n → copied (behind p) (entry k) 40 ≡ row d k (place d n k)
  packed_row k h =
      let z : 0 + k ≡ k = omega arith in
      in_behind (entry k) 40 ∙ copied_front table rest (entry k) 40 (omega (arith, length_rows d 0 n (table_end n))) ∙ rw z at (rows_at d 0 n (table_end n) k h)

  in_rest : (w : List ℕ) (at a m : ℕ) → at ≡ 40 * n + a → copied rest a m ≡ w → copied (table ++ rest) at m ≡ w
  in_rest w at a m = second_part table rest (40 * n) (length_rows d 0 n (table_end n)) w at a m

  pub packed_ending : copied (behind p) (entry n) 40 ≡ ending (total d n)
  packed_ending =
      in_behind (entry n) 40 ∙ in_rest _ (entry n) 0 40 (omega arith) (first_part (ending (total d n)) (images d pool 0 n) 40 (length_ending (total d n)))

  pub packed_image : (k : ℕ) → k < n → copied p (place d n k) (size d k) ≡ copied pool (offset d k) (size d k)
  unfolding packed table_end
  packed_image k h =
      let z : 0 + k ≡ k = omega arith in
      second_part (header serial flags) (table ++ rest) 16 (length_header serial flags) _ (place d n k) (40 * n + (40 + sizes d 0 k)) (size d k) (omega arith)
      (in_rest _ _ (40 + sizes d 0 k) (size d k) refl
      (second_part (ending (total d n)) (images d pool 0 n) 40 (length_ending (total d n)) _ _ (sizes d 0 k) (size d k) refl (rw z at (images_at d pool 0 n k h))))
