-- Laws of the layout: its tables entry by entry, their lengths, and how many there can be.
use Rattle.std.specs.Prelude.{◌≡◌}
use Rattle.std.proofs.Math.Path.{refl}
use Rattle.std.proofs.Common.{sym, ◌∙◌}
use mathlib.Core.List.{List, [], ◌++◌, append-nil}
use Prim.Native.Nat.{ℕ, zero, suc, ◌+◌, ◌*◌, ◌≤◌}
use native.Mathlib.Omega.{arith}
use Rattle.std.proofs.Math.ListN.{length, length-append}
use Rattle.rules.specs.Choice.{pick, chosen, chosen_two}
use Rattle.ranges.specs.declared.Mapping.{Mapping}
use Rattle.layout.specs.Rows.{rows, flat, total, length_rows, length_flat, total_most, flat_none}
use Rattle.entries.specs.Entries.{deeper}
use Rattle.layout.specs.Limbs.{limb, limb_at}
use Rattle.layout.specs.Layout.{part, tables, below, below_at, next, entry_at, tree}

module _ (l : List Mapping) where
  pub tables_are : (k a : ℕ) → tables l k a ≡ 1 + total (below_at l k a) 512
  unfolding tables below_at below
  tables_are zero a = let z : total (below_at l zero a) 512 ≤ 512 * 0 = total_most (below_at l zero a) 0 (λ i. omega arith) 512 in omega arith
  tables_are (suc k) a = refl

  pub tree_is : (k a t : ℕ) → tree l k a t ≡ rows (entry_at l k a t) 512 ++ flat (limb_at l k a t) 512
  unfolding tree limb_at limb
  tree_is zero a t = rw (flat_none (limb_at l zero a t) (λ i. refl) 512) (sym (append-nil (rows (entry_at l zero a t) 512)))
  tree_is (suc k) a t = refl

  -- ---- lengths
  pub length_tree : (k a t : ℕ) → length (tree l k a t) ≡ 512 * tables l k a
  unfolding tree tables
  length_tree zero a t = length_rows (entry_at l zero a t) 512
  length_tree (suc k) a t =
      let f : ℕ → List ℕ = λ i. pick (deeper l (suc k) (part (suc k) a i)) (tree l k (part (suc k) a i) (next l (suc k) a t i)) [] in
      let g : ℕ → ℕ = λ i. pick (deeper l (suc k) (part (suc k) a i)) (tables l k (part (suc k) a i)) 0 in
      let each : (i : ℕ) → length (f i) ≡ 512 * g i =
      λ i. chosen_two (λ (x : List ℕ) (n : ℕ). length x ≡ 512 * n) (deeper l (suc k) (part (suc k) a i)) _ _ _ _
      (λ e. length_tree k (part (suc k) a i) (next l (suc k) a t i)) (λ e. refl) in
      let r = length_flat f g 512 each 512 in
      length-append (rows (entry_at l (suc k) a t) 512) (flat f 512) ∙ rw (length_rows (entry_at l (suc k) a t) 512, r) (omega arith)

  length_limb : (k b t : ℕ) → length (limb l k b t) ≡ 512 * below l k b
  unfolding limb below
  length_limb zero b t = refl
  length_limb (suc k) b t =
      chosen_two (λ (x : List ℕ) (n : ℕ). length x ≡ 512 * n) (deeper l (suc k) b) _ _ _ _ (λ e. length_tree k b t) (λ e. refl)

  pub length_limb_at : (k a t i : ℕ) → length (limb_at l k a t i) ≡ 512 * below_at l k a i
  unfolding limb_at below_at
  length_limb_at k a t i = length_limb k (part k a i) (next l k a t i)

  -- ---- there cannot be many
  few_below : (k n : ℕ) → ((b : ℕ) → tables l k b ≤ n) → (b : ℕ) → below l (suc k) b ≤ n
  unfolding below
  few_below k n h b = chosen (λ (m : ℕ). m ≤ n) (deeper l (suc k) b) (tables l k b) 0 (λ e. h b) (λ e. omega arith)

  few : (k n : ℕ) → ((b : ℕ) → below l k b ≤ n) → (a : ℕ) → tables l k a ≤ 1 + 512 * n
  unfolding below_at
  few k n h a = omega (arith, tables_are k a, total_most (below_at l k a) n (λ i. h (part k a i)) 512)

  pub one_table : (a : ℕ) → tables l 0 a ≤ 1
  unfolding tables
  one_table a = omega arith

  pub few_slots : (a : ℕ) → tables l 1 a ≤ 513
  few_slots a = few 1 1 (few_below 0 1 one_table) a

  pub few_tables : (a : ℕ) → tables l 2 a ≤ 262657
  few_tables a = few 2 513 (few_below 1 513 few_slots) a
