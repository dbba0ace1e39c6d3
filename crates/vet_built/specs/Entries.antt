-- What stands in a table that was built: numbers that are not reserved, and the tables below, one behind the other.
use Rattle.std.specs.Prelude.{◌≡◌, List, ◌⊎◌, ltb, None, Option, Some}
use Rattle.std.proofs.Math.Path.{refl}
use Rattle.std.proofs.Common.{◌∙◌}
use Rattle.std.proofs.Math.Bool.{true, false}
use Rattle.std.proofs.Math.Logic.{inl, inr}
use Prim.Native.Nat.{ℕ, zero, suc, ◌+◌, ◌*◌, ◌/◌, ◌%◌, ◌≤◌, ◌<◌}
use native.Mathlib.Omega.{arith}
use Rattle.rules.specs.Choice.{either, pick_yes, pick_no, both_true, right_false, not_true, yes_or_no}
use Rattle.pages.specs.Window.{Acceptable}
use Rattle.pages.specs.declared.Window.{Window}
use Rattle.ranges.specs.declared.Mapping.{Mapping}
use Rattle.mapping.specs.Mapping.{deciding, leading, lead_of, touched}
use Rattle.mapping.specs.Entries.{Every}
use Rattle.mapping.specs.Sound.{Formed}
use Rattle.descriptors.specs.Numbers.{span, leaf_number, table_number}
use Rattle.descriptors.specs.Meaning.{is_table, reserved, meaning, means_two}
use Rattle.descriptors.specs.declared.Descriptor.{Descriptor}
use Rattle.descriptors.specs.declared.Descriptor.TheVariants.{Nothing, Table, Leaf}
use Rattle.walks.specs.Walk.{entry_of}
use Rattle.entries.specs.Entries.{leaf, physical, whole, deeper, entry}
use Rattle.layout.specs.Rows.{rows, flat, total, length_rows, Stands, stands_left, stands_right, stands_rows, stands_flat}
use Rattle.layout.specs.Layout.{part, tables, below, below_at, next, entry_at, tree}
use Rattle.layout.specs.Limbs.{limb, limb_at}
use Rattle.layout.proofs.Laws.{tree_is, length_limb_at}
use Rattle.tables_right.specs.Numbers.{leaf_means}
use Rattle.tables_right.specs.Decided.{decider_formed, exact_physical, whole_one}

-- neither a table nor reserved
pub record Plain (k e : ℕ) : Type 0 where
  pub leaf : is_table k e ≡ false
  pub plain : reserved k e ≡ false

zero_plain : (k : ℕ) → Plain k 0
unfolding is_table reserved
zero_plain zero = record { leaf = refl; plain = refl }
zero_plain (suc k) = record { leaf = right_false (ltb 0 (suc k)) false refl; plain = refl }

-- what leads an address on is one
leaf_plain : (k e x p a : ℕ) → meaning k x e ≡ Leaf p a → Plain k e
leaf_plain k e x p a =
    means_two k e x x (λ (d c : Descriptor). d ≡ Leaf p a → Plain k e) (λ h. absurd (None h)) (λ t v h. absurd (table _ h)) (λ t v h. record { leaf = t; plain = v })
  where
    None : Nothing ≡ Leaf p a → ⊥
    None h = let z : ◌≡◌ {A = ℕ} 0 1 = cc in omega arith

    table : (u : ℕ) → Table u ≡ Leaf p a → ⊥
    table u h = let z : ◌≡◌ {A = ℕ} 0 1 = cc in omega arith

module _ (w : Window) (acc : Acceptable w) (l : List Mapping) (formed : Every (Formed w) l) where
  low_level : (k b : ℕ) → whole l k b ≡ true → k ≤ 1
  unfolding whole
  low_level zero b e = omega arith
  low_level (suc zero) b e = omega arith
  low_level (suc (suc k)) b e = let z : false ≡ true = e in absurd (yes_or_no false z refl)

  -- an entry that says itself where its addresses lead
  whole_plain : (k b : ℕ) → b ≤ 549755813888 → b % span k ≡ 0 → 0 < span k → whole l k b ≡ true → Plain k (leaf k (lead_of l b))
  unfolding lead_of leading leaf
  whole_plain k b h a s e = go (deciding l b) refl
    where
      go : (d : Option Mapping) → deciding l b ≡ d → Plain k (leaf k (leading b d))
      go None i = zero_plain k
      go (Some m) i =
          let o = whole_one w acc l formed k b b e h a (omega arith) (omega arith) in
          let p = exact_physical w acc l formed b m i in
          leaf_plain k (leaf_number k (physical m b) m.attr) 0 _ _
          (leaf_means k 0 (physical m b) m.attr (low_level k b e) (o.starts m i) (omega arith) (decider_formed w l formed b m i).attributes)

  module _ (numbers : List ℕ) where
    -- a table stands below the entry, and among the numbers
    pub record Deep (k b e t : ℕ) : Type 0 where
      pub number : e ≡ table_number (4096 * t)
      pub count : below l (suc k) b ≡ tables l k b
      pub stands : Stands numbers (512 * t) (tree l k b t)

    -- an entry of a table that was built, `t` being the number of the next table: at the lowest level nothing stands below
    unfoldable pub Entry : ℕ → ℕ → ℕ → ℕ → Type 0
    Entry zero b e t = Plain 0 e
    Entry (suc k) b e t = Plain (suc k) e ⊎ Deep k b e t

    entry_there : (k a t i : ℕ) → i < 512 → Stands numbers (512 * t) (tree l k a t) → entry_of numbers (4096 * t) i ≡ entry l k (part k a i) (4096 * next l k a t i)
    unfolding entry_at
    entry_there k a t i h s =
        let z : 4096 * t / 8 ≡ 512 * t = omega arith in
        rw z
        (stands_rows numbers (512 * t) (entry_at l k a t) 512 i h
        (stands_left numbers (512 * t) (rows (entry_at l k a t) 512) (flat (limb_at l k a t) 512) (rw (tree_is l k a t) at s)))

    limb_there : (k a t i : ℕ) → i < 512 → deeper l (suc k) (part (suc k) a i) ≡ true → Stands numbers (512 * t) (tree l (suc k) a t)
        → Stands numbers (512 * next l (suc k) a t i) (tree l k (part (suc k) a i) (next l (suc k) a t i))
    unfolding next limb_at limb
    limb_there k a t i h d s =
        let u = stands_right numbers (512 * t) (rows (entry_at l (suc k) a t) 512) (flat (limb_at l (suc k) a t) 512) 512 (length_rows (entry_at l (suc k) a t) 512) (rw (tree_is l (suc k) a t) at s) in
        let v = stands_flat numbers (512 * t + 512) (limb_at l (suc k) a t) (below_at l (suc k) a) 512 (length_limb_at l (suc k) a t) 512 i h u in
        let z : 512 * t + 512 + 512 * total (below_at l (suc k) a) i ≡ 512 * (t + 1 + total (below_at l (suc k) a) i) = omega arith in
        let e : limb_at l (suc k) a t i ≡ tree l k (part (suc k) a i) (next l (suc k) a t i) = pick_yes _ _ _ d in
        rw (z, e) at v

    module _ (k a t i : ℕ) (h : i < 512) (high : part k a i ≤ 549755813888) (al : part k a i % span k ≡ 0) (pos : 0 < span k) (s : Stands numbers (512 * t) (tree l k a t)) where
      by_whole : whole l k (part k a i) ≡ true → Plain k (entry_of numbers (4096 * t) i)
      unfolding entry
      by_whole y = rw (entry_there k a t i h s, pick_yes (whole l k (part k a i)) (leaf k (lead_of l (part k a i))) _ y) (whole_plain k (part k a i) high al pos y)

      by_none : whole l k (part k a i) ≡ false → touched l (part k a i) (span k) ≡ false → Plain k (entry_of numbers (4096 * t) i)
      unfolding entry
      by_none n m =
          let e : entry l k (part k a i) (4096 * next l k a t i) ≡ 0 = pick_no _ _ _ n ∙ pick_no _ _ _ m in
          rw (entry_there k a t i h s, e) (zero_plain k)

    pub row_entry : (k a t i : ℕ) → i < 512 → part k a i ≤ 549755813888 → part k a i % span k ≡ 0 → 0 < span k → Stands numbers (512 * t) (tree l k a t)
        → Entry k (part k a i) (entry_of numbers (4096 * t) i) (next l k a t i)
    unfolding Entry whole deeper entry below
    row_entry zero a t i h high al pos s = by_whole zero a t i h high al pos s refl
    row_entry (suc k) a t i h high al pos s =
        either (whole l (suc k) (part (suc k) a i)) (λ y. inl (by_whole (suc k) a t i h high al pos s y))
        (λ n. either (touched l (part (suc k) a i) (span (suc k)))
        (λ y. let d : deeper l (suc k) (part (suc k) a i) ≡ true = both_true _ _ (not_true _ n) y in
        inr (record {
          number = entry_there (suc k) a t i h s ∙ pick_no _ _ _ n ∙ pick_yes _ _ _ y;
          count = pick_yes _ _ _ d;
          stands = limb_there k a t i h d s;
        }))
        (λ m. inl (by_none (suc k) a t i h high al pos s n m)))
