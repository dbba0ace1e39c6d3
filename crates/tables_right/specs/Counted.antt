-- How many tables there are and in which order they lie, in the paper's words: one of level 1, one of level 2 for each GiB touched, and one of level 3 for each
-- touched slot that is no block.
use Rattle.std.specs.Prelude.{◌≡◌, Bool, ◌&&◌, List}
use Rattle.std.proofs.Math.Path.{refl, ap}
use Rattle.std.proofs.Common.{sym, ◌∙◌, add-zero, suc-mul}
use Rattle.std.proofs.Math.Bool.{true, false, not}
use Prim.Native.Nat.{ℕ, zero, suc, ◌+◌, ◌*◌, ◌≤◌, ◌<◌}
use native.Mathlib.Omega.{arith}
use Rattle.rules.specs.Choice.{pick, by, left_false}
use Rattle.tools.specs.Count.{bit, count}
use Rattle.ranges.specs.Ranges.{meet_inside}
use Rattle.ranges.specs.declared.Mapping.{Mapping}
use Rattle.mapping.specs.Mapping.{touched, touches}
use Rattle.mapping.specs.Entries.{any_less}
use Rattle.descriptors.specs.Numbers.{span}
use Rattle.entries.specs.Entries.{block, whole, deeper}
use Rattle.layout.specs.Rows.{total}
use Rattle.layout.specs.Layout.{part, tables, below, below_at, next}
use Rattle.layout.proofs.Laws.{tables_are}

-- ---- totals
total_same : (f g : ℕ → ℕ) → ((i : ℕ) → f i ≡ g i) → (n : ℕ) → total f n ≡ total g n
unfolding total
total_same f g h zero = refl
total_same f g h (suc n) = rw (total_same f g h n, h n)

total_both : (f g : ℕ → ℕ) (n : ℕ) → total (λ (i : ℕ). f i + g i) n ≡ total f n + total g n
unfolding total
total_both f g zero = refl
total_both f g (suc n) = omega (arith, total_both f g n)

total_more : (f : ℕ → ℕ) (a n : ℕ) → total f (a + n) ≡ total f a + total (λ (j : ℕ). f (a + j)) n
unfolding total
total_more f a zero = rw (add-zero a) (omega arith)
total_more f a (suc n) = let z : a + suc n ≡ suc (a + n) = omega arith in rw z (omega (arith, total_more f a n))

total_rows : (f : ℕ → ℕ) (m n : ℕ) → total (λ (g : ℕ). total (λ (j : ℕ). f (g * m + j)) m) n ≡ total f (n * m)
unfolding total
total_rows f m zero = let z : 0 * m ≡ 0 = omega arith in rw z refl
total_rows f m (suc n) =
    let z : suc n * m ≡ n * m + m = suc-mul n m in
    rw z (omega (arith, total_rows f m n, total_more f (n * m) m))

-- a total of ones is a count
count_last : (p : ℕ → Bool) (a n : ℕ) → count p a (suc n) ≡ count p a n + bit (p (a + n))
unfolding count
count_last p a zero = let z : a + 0 ≡ a = omega arith in rw z (omega arith)
count_last p a (suc n) = let z : suc a + n ≡ a + suc n = omega arith in omega (arith, (rw z at (count_last p (suc a) n)))

total_count : (p : ℕ → Bool) (n : ℕ) → total (λ (i : ℕ). bit (p i)) n ≡ count p 0 n
unfolding total count
total_count p zero = refl
total_count p (suc n) = let z : 0 + n ≡ n = omega arith in rw (total_count p n) (sym (rw z at (count_last p 0 n)))

module _ (l : List Mapping) where
  -- a mapping touches GiB g
  unfoldable pub gib_touched : ℕ → Bool
  gib_touched g = touched l (g * 1073741824) 1073741824

  -- a mapping touches slot s
  unfoldable pub slot_touched : ℕ → Bool
  slot_touched s = touched l (s * 2097152) 2097152

  -- slot s is touched and no block
  unfoldable pub slot_paged : ℕ → Bool
  slot_paged s = slot_touched s && not (block l (s * 2097152))

  -- what touches a slot touches its GiB
  slot_in_gib : (g j : ℕ) → j < 512 → gib_touched g ≡ false → slot_touched (g * 512 + j) ≡ false
  unfolding gib_touched slot_touched touched
  slot_in_gib g j h e =
      any_less (touches (g * 1073741824) 1073741824) (touches ((g * 512 + j) * 2097152) 2097152) l
      (λ m f. meet_inside (g * 1073741824) 1073741824 m.virt m.size ((g * 512 + j) * 2097152) 2097152 (omega arith) (omega arith) (omega arith) f) e

  -- ---- below an entry, by what stands there
  slot_is : (g j : ℕ) → part 1 (g * 1073741824) j ≡ (g * 512 + j) * 2097152
  unfolding span
  slot_is g j = omega arith

  gib_is : (g : ℕ) → part 2 0 g ≡ g * 1073741824
  unfolding span
  gib_is g = omega arith

  ones : (b : Bool) → pick b 1 0 ≡ bit b
  unfolding pick bit
  ones true = refl
  ones false = refl

  and_sym : (a b : Bool) → (a && b) ≡ (b && a)
  and_sym true true = refl
  and_sym true false = refl
  and_sym false true = refl
  and_sym false false = refl

  slot_below : (g j : ℕ) → below_at l 1 (g * 1073741824) j ≡ bit (slot_paged (g * 512 + j))
  unfolding below_at below tables deeper whole slot_paged slot_touched span
  slot_below g j = let b = (g * 512 + j) * 2097152 in rw (slot_is g j, and_sym (not (block l b)) (touched l b 2097152)) (ones (touched l b 2097152 && not (block l b)))

  -- the slots of a GiB
  gib_slots : ℕ → ℕ
  gib_slots g = total (λ (j : ℕ). bit (slot_paged (g * 512 + j))) 512

  off : (b : Bool) → b ≡ false → bit b ≡ 0
  unfolding bit
  off b f = rw f

  none_paged : (g : ℕ) → gib_touched g ≡ false → (n : ℕ) → n ≤ 512 → total (λ (j : ℕ). bit (slot_paged (g * 512 + j))) n ≡ 0
  unfolding total slot_paged
  none_paged g e zero h = refl
  none_paged g e (suc n) h =
      let z : bit (slot_touched (g * 512 + n) && not (block l ((g * 512 + n) * 2097152))) ≡ 0 = off _ (left_false _ _ (slot_in_gib g n (omega arith) e)) in
      omega (arith, none_paged g e n (omega arith))

  when_touched : (m n : ℕ) → m ≡ 1 + n → pick true m 0 ≡ bit true + n
  unfolding pick bit
  when_touched m n e = e

  when_not : (m n : ℕ) → n ≡ 0 → pick false m 0 ≡ bit false + n
  unfolding pick bit
  when_not m n e = omega arith

  gib_below : (g : ℕ) → below_at l 2 0 g ≡ bit (gib_touched g) + gib_slots g
  unfolding below_at below deeper whole gib_touched span gib_slots
  gib_below g =
      let b = g * 1073741824 in
      let t : tables l 1 b ≡ 1 + total (λ (j : ℕ). bit (slot_paged (g * 512 + j))) 512 = tables_are l 1 b ∙ ap (λ (n : ℕ). 1 + n) (total_same (below_at l 1 b) (λ (j : ℕ). bit (slot_paged (g * 512 + j))) (slot_below g) 512) in
      rw (gib_is g)
      (by (λ (c : Bool). touched l b 1073741824 ≡ c → pick c (tables l 1 b) 0 ≡ bit c + total (λ (j : ℕ). bit (slot_paged (g * 512 + j))) 512) (touched l b 1073741824)
      (λ _ e. when_touched _ _ t) (λ _ e. when_not _ _ (none_paged g e 512 (omega arith))) refl)

  -- the tables below the first GiBs
  gib_totals : (n : ℕ) → total (below_at l 2 0) n ≡ count gib_touched 0 n + count slot_paged 0 (n * 512)
  unfolding gib_slots
  gib_totals n =
      let a = total_same (below_at l 2 0) (λ (g : ℕ). bit (gib_touched g) + gib_slots g) gib_below n in
      let b = total_both (λ (g : ℕ). bit (gib_touched g)) gib_slots n in
      let c = total_rows (λ (s : ℕ). bit (slot_paged s)) 512 n in
      omega (arith, a, b, c, total_count gib_touched n, total_count slot_paged (n * 512))

  pub tables_counted : tables l 2 0 ≡ 1 + count gib_touched 0 512 + count slot_paged 0 262144
  tables_counted = omega (arith, tables_are l 2 0, gib_totals 512)

  -- the number of a GiB's table: behind level 1, the tables of the GiBs before it, and all that stand below these
  pub gib_place : (g : ℕ) → next l 2 0 0 g ≡ 1 + count gib_touched 0 g + count slot_paged 0 (g * 512)
  unfolding next
  gib_place g = omega (arith, gib_totals g)

  -- the number of a slot's table, in a GiB whose own is table t: behind that, and those of the GiB's slots before it
  pub slot_place : (g t j : ℕ) → next l 1 (g * 1073741824) t j ≡ t + 1 + count (λ (i : ℕ). slot_paged (g * 512 + i)) 0 j
  unfolding next
  slot_place g t j =
      omega (arith, total_same (below_at l 1 (g * 1073741824)) (λ (i : ℕ). bit (slot_paged (g * 512 + i))) (slot_below g) j, total_count (λ (i : ℕ). slot_paged (g * 512 + i)) j)
