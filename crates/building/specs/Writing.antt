-- The loops that count and write tables.
use Rattle.std.specs.Prelude.{◌≡◌, Bool, true, false, length, set}
use Rattle.std.proofs.Math.Path.{refl, ap}
use Rattle.std.proofs.Common.{sym, ◌∙◌, mul-le-mul_right, suc-mul}
use mathlib.Core.List.{List, [], ◌∷◌}
use Prim.Native.Nat.{ℕ, zero, suc, ◌+◌, ◌-◌, ◌*◌, ◌≤◌, ◌<◌}
use Rattle.std.proofs.Math.Numerals.{add-one}
use native.Mathlib.Omega.{arith}
use Rattle.std.proofs.Math.Seq.{set_out}
use Rattle.rules.specs.Choice.{pick, pick_yes, pick_no}
use Rattle.tools.specs.Laid.{laid, then, laid_one}
use Rattle.ranges.specs.declared.Mapping.{Mapping}
use Rattle.descriptors.specs.Numbers.{span}
use Rattle.layout.specs.Rows.{rows, flat, total, total_within, length_rows, length_flat}
use Rattle.entries.specs.Entries.{deeper, entry}
use Rattle.layout.specs.Layout.{part, tables, below, below_at, next, entry_at, tree}
use Rattle.layout.specs.Limbs.{limb, limb_at}
use Rattle.layout.proofs.Laws.{tables_are, tree_is, length_limb_at, one_table, few_slots, few_tables}

-- the addresses of a table, and of an entry, lie below 2^39
pub record Inside (k a : ℕ) : Type 0 where
  pub level : k ≤ 2
  pub ends : a + 512 * span k ≤ 549755813888

pub record InsidePart (k b : ℕ) : Type 0 where
  pub level : k ≤ 2
  pub ends : b + span k ≤ 549755813888

-- and the tables for them have numbers up to the most that there can be
pub record Fit (l : List Mapping) (k a t : ℕ) : Type 0 where
  pub room : Inside k a
  pub most : t + tables l k a ≤ 262657

pub record FitPart (l : List Mapping) (k b t : ℕ) : Type 0 where
  pub room : InsidePart k b
  pub most : t + below l k b ≤ 262657

-- ---- numbers
-- the addresses of a table are those of the entry above it
region_is : (k : ℕ) → k ≤ 2 → (k ≡ 0 → ⊥) → 512 * span (k - 1) ≡ span k
unfolding span
region_is zero h d = absurd (d refl)
region_is (suc zero) h d = refl
region_is (suc (suc zero)) h d = refl
region_is (suc (suc (suc k))) h d = absurd (omega arith)

entry_ends : (s i : ℕ) → i < 512 → i * s + s ≤ 512 * s
entry_ends s i h = let z : suc i * s ≤ 512 * s = mul-le-mul_right s h in omega (arith, suc-mul i s)

module _ (k a i : ℕ) (r : Inside k a) (h : i < 512) where
  pub part_fits : (s : ℕ) → s ≡ span k → a + i * s ≤ 549755813888
  part_fits s e = omega (arith, entry_ends s i h, r.ends)

  pub part_inside : (b : ℕ) → b ≡ part k a i → InsidePart k b
  part_inside b e = rw e (record { level = r.level; ends = omega (arith, entry_ends (span k) i h, r.ends) })

pub inside_below : (k b : ℕ) → InsidePart k b → (k ≡ 0 → ⊥) → Inside (k - 1) b
inside_below k b p d = record { level = omega (arith, p.level); ends = omega (arith, p.ends, region_is k p.level d) }

pub part_low : (k b : ℕ) → InsidePart k b → b ≤ 549755813888
part_low k b p = omega (arith, p.ends)

module _ (l : List Mapping) where
  pub tables_most : (k a : ℕ) → k ≤ 2 → tables l k a ≤ 262657
  tables_most zero a h = omega (arith, one_table l a)
  tables_most (suc zero) a h = omega (arith, few_slots l a)
  tables_most (suc (suc zero)) a h = few_tables l a
  tables_most (suc (suc (suc k))) a h = absurd (omega arith)

  -- ---- below an entry
  module _ (k b : ℕ) where
    pub below_none : k ≡ 0 → 0 ≡ below l k b
    unfolding below
    below_none e = rw e

    pub limb_none : (t : ℕ) (n : List ℕ) → k ≡ 0 → (t ≡ t + below l k b) × (n ≡ laid n (512 * t) (limb l k b t))
    unfolding limb laid
    limb_none t n e = (let z = below_none e in omega arith, rw e)

    module _ (d : k ≡ 0 → ⊥) (v : Bool) (e : v ≡ deeper l k b) where
      below_some : below l k b ≡ pick v (tables l (k - 1) b) 0
      unfolding below
      below_some = let z : k ≡ suc (k - 1) = omega arith in ap (λ (j : ℕ). below l j b) z ∙ rw (← z, ← e)

      limb_some : (t : ℕ) → limb l k b t ≡ pick v (tree l (k - 1) b t) []
      unfolding limb
      limb_some t = let z : k ≡ suc (k - 1) = omega arith in ap (λ (j : ℕ). limb l j b t) z ∙ rw (← z, ← e)

      pub below_not : v ≡ false → 0 ≡ below l k b
      below_not f = sym (below_some ∙ pick_no _ _ _ f)

      pub below_yes : (r : ℕ) → v ≡ true → r ≡ tables l (k - 1) b → r ≡ below l k b
      below_yes r f g = g ∙ sym (below_some ∙ pick_yes _ _ _ f)

      module _ (t : ℕ) where
        pub limb_not : (n : List ℕ) → v ≡ false → (t ≡ t + below l k b) × (n ≡ laid n (512 * t) (limb l k b t))
        unfolding laid
        limb_not n f = (let z = below_not f in omega arith, rw (limb_some t, pick_no v (tree l (k - 1) b t) [] f))

        pub limb_yes :
            (n m : List ℕ) (r : ℕ) → v ≡ true → (r ≡ t + tables l (k - 1) b) × (m ≡ laid n (512 * t) (tree l (k - 1) b t)) →
            (r ≡ t + below l k b) × (m ≡ laid n (512 * t) (limb l k b t))
        limb_yes n m r f g = (let z = below_yes (tables l (k - 1) b) f refl in let y = g.0 in omega arith, rw (limb_some t, pick_yes v (tree l (k - 1) b t) [] f) g.1)

        pub limb_fit : FitPart l k b t → v ≡ true → Fit l (k - 1) b t
        limb_fit f g = record { room = inside_below k b f.room d; most = let z = below_some ∙ pick_yes _ _ _ g in omega (arith, f.most) }

  -- ---- a loop over the entries of a table
  module _ (k a : ℕ) where
    here : (i b : ℕ) → b ≡ part k a i → below l k b ≡ below_at l k a i
    unfolding below_at
    here i b e = rw e

    -- nothing stands below a page
    pub count_none : k ≡ 0 → 1 ≡ tables l k a
    unfolding tables
    count_none e = rw e

    -- the count so far
    pub count_starts : 1 ≡ 1 + total (below_at l k a) 0
    unfolding total
    count_starts = refl

    module _ (n i : ℕ) (inv : n ≡ 1 + total (below_at l k a) i) where
      pub count_ends : 512 ≤ i → i ≤ 512 → n ≡ tables l k a
      count_ends h u = let z : i ≡ 512 = omega arith in inv ∙ rw z (sym (tables_are l k a))

      module _ (b r : ℕ) (e : b ≡ part k a i) (f : r ≡ below l k b) where
        pub count_goes : n + r ≡ 1 + total (below_at l k a) (i + 1)
        unfolding total
        count_goes = rw add-one (omega (arith, here i b e))

        pub count_fits : k ≤ 2 → i < 512 → n + r ≤ 262657
        count_fits h u = omega (arith, here i b e, total_within (below_at l k a) i 512 u, tables_are l k a, tables_most k a h)

    module _ (t : ℕ) where
      -- the number of the next table
      pub next_starts : t + 1 ≡ next l k a t 0
      unfolding next total
      next_starts = omega arith

      module _ (x i : ℕ) (inv : x ≡ next l k a t i) (f : Fit l k a t) (h : i < 512) where
        pub next_fits : x + below_at l k a i ≤ 262657
        unfolding next
        next_fits = omega (arith, f.most, tables_are l k a, total_within (below_at l k a) i 512 h)

        module _ (b : ℕ) (e : b ≡ part k a i) where
          pub next_goes : (r : ℕ) → r ≡ below l k b → x + r ≡ next l k a t (i + 1)
          unfolding next total
          next_goes r g = let z = here i b e in rw (add-one i) (omega arith)

          pub next_after : (r : ℕ) → r ≡ x + below l k b → r ≡ next l k a t (i + 1)
          next_after r g = g ∙ next_goes (below l k b) refl

          pub limb_fits : FitPart l k b x
          limb_fits = record { room = part_inside k a i f.room h b e; most = omega (arith, here i b e, next_fits) }

          pub sum_fits : (r : ℕ) → r ≡ below l k b → x + r ≤ 262657
          sum_fits r g = omega (arith, here i b e, next_fits)

      -- past the last entry
      pub next_ends : (x i : ℕ) → x ≡ next l k a t i → 512 ≤ i → i ≤ 512 → x ≡ t + tables l k a
      unfolding next
      next_ends x i inv h u =
          let z : i ≡ 512 = omega arith in
          let y : x ≡ t + 1 + total (below_at l k a) 512 = rw z at inv in
          omega (arith, tables_are l k a)

      next_is : (i : ℕ) → next l k a t i ≡ t + 1 + total (below_at l k a) i
      unfolding next
      next_is i = refl

      -- the entries so far, and the tables below them
      module _ (n : List ℕ) where
        pub row_starts : n ≡ laid n (512 * t) (rows (entry_at l k a t) 0)
        unfolding rows laid
        row_starts = refl

        pub limbs_start : n ≡ laid n (512 * t + 512) (flat (limb_at l k a t) 0)
        unfolding flat laid
        limbs_start = refl

        module _ (m : List ℕ) (i : ℕ) where
          pub row_goes : (m' : List ℕ) (b x v : ℕ) → m ≡ laid n (512 * t) (rows (entry_at l k a t) i) → x ≡ next l k a t i → b ≡ part k a i → v ≡ entry l k b (4096 * x) → m' ≡ set m (512 * t + i) v → m' ≡ laid n (512 * t) (rows (entry_at l k a t) (i + 1))
          unfolding rows entry_at
          row_goes m' b x v inv e f g h =
              let z : v ≡ entry_at l k a t i = g ∙ rw (e, f) in
              rw (add-one, ← z) (then n m m' (rows (entry_at l k a t) i) (v ∷ []) (512 * t) (512 * t + i) i (length_rows (entry_at l k a t) i) refl inv (h ∙ laid_one m (512 * t + i) v))

          pub row_ends : m ≡ laid n (512 * t) (rows (entry_at l k a t) i) → 512 ≤ i → i ≤ 512 → m ≡ laid n (512 * t) (rows (entry_at l k a t) 512)
          row_ends inv h u = let z : i ≡ 512 = omega arith in inv ∙ rw z

          pub limbs_go : (m' : List ℕ) (b x : ℕ) → m ≡ laid n (512 * t + 512) (flat (limb_at l k a t) i) → x ≡ next l k a t i → b ≡ part k a i → m' ≡ laid m (512 * x) (limb l k b x) → m' ≡ laid n (512 * t + 512) (flat (limb_at l k a t) (i + 1))
          unfolding flat limb_at
          limbs_go m' b x inv e f h =
              let z : limb l k b x ≡ limb_at l k a t i = rw (e, f) in
              let o : 512 * x ≡ 512 * t + 512 + 512 * total (below_at l k a) i = omega (arith, next_is i) in
              rw add-one (then n m m' (flat (limb_at l k a t) i) (limb_at l k a t i) (512 * t + 512) (512 * x) (512 * total (below_at l k a) i) (length_flat (limb_at l k a t) (below_at l k a) 512 (length_limb_at l k a t) i) o inv (rw z at h))

          -- the whole, `o` being the numbers before the entries were written
          pub limbs_end : (o : List ℕ) → n ≡ laid o (512 * t) (rows (entry_at l k a t) 512) → m ≡ laid n (512 * t + 512) (flat (limb_at l k a t) i) → 512 ≤ i → i ≤ 512 → m ≡ laid o (512 * t) (tree l k a t)
          limbs_end o e inv h u =
              let z : i ≡ 512 = omega arith in
              then o n m (rows (entry_at l k a t) 512) (flat (limb_at l k a t) 512) (512 * t) (512 * t + 512) 512 (length_rows (entry_at l k a t) 512) refl e (rw z at inv)
              ∙ ap (laid o (512 * t)) (sym (tree_is l k a t))

pub put_out : (n : List ℕ) (i v : ℕ) → length n ≤ i → n ≡ set n i v
put_out n i v h = sym (set_out n i v h)

pub ruleset counting = (count_none, count_ends, below_none, below_not, below_yes)

pub ruleset writing = (put_out, limb_none, limb_not)

-- ---- the whole
pub top_inside : Inside 2 0
unfolding span
top_inside = record { level = omega arith; ends = omega arith }

pub top_fit : (l : List Mapping) → Fit l 2 0 0
top_fit l = record { room = top_inside; most = omega (arith, few_tables l 0) }

pub count_small : (l : List Mapping) (count : ℕ) → count ≡ tables l 2 0 → count ≤ 262657
count_small l count e = omega (arith, few_tables l 0)
