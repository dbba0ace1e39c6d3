-- The walk of the tables leads where the list says.
use Rattle.std.specs.Prelude.{◌≡◌, Bool, List, Option, None, Some}
use Rattle.std.proofs.Math.Path.{refl}
use Rattle.std.proofs.Common.{◌∙◌}
use Rattle.std.proofs.Math.Bool.{true, false}
use Prim.Native.Nat.{ℕ, zero, suc, ◌+◌, ◌-◌, ◌*◌, ◌/◌, ◌%◌, ◌≤◌, ◌<◌}
use native.Mathlib.Omega.{arith}
use Rattle.mapping.specs.declared.Lead.{Lead}
use Rattle.rules.specs.Choice.{pick, by, pick_yes, pick_no, both_true, not_true, yes_or_no}
use Rattle.pages.specs.Window.{Acceptable}
use Rattle.pages.specs.declared.Window.{Window}
use Rattle.ranges.specs.declared.Mapping.{Mapping}
use Rattle.mapping.specs.Mapping.{deciding, leading, lead_of, touched}
use Rattle.mapping.specs.Entries.{Every}
use Rattle.mapping.specs.Sound.{Formed}
use Rattle.descriptors.specs.Numbers.{span, table_number}
use Rattle.descriptors.specs.Meaning.{meaning}
use Rattle.walks.specs.Walk.{entry_for, led, descended}
use Rattle.entries.specs.Touched.{untouched}
use Rattle.entries.specs.Entries.{physical, leaf, whole, deeper, entry}
use Rattle.layout.specs.Rows.{rows, flat, total, length_rows, Stands, stands_left, stands_right, stands_rows, stands_flat, total_within}
use Rattle.layout.specs.Layout.{part, tables, below, below_at, next, entry_at, tree}
use Rattle.layout.specs.Limbs.{limb, limb_at}
use Rattle.layout.proofs.Laws.{tables_are, tree_is, length_limb_at}
use Rattle.tables_right.specs.Numbers.{nothing_means, table_means, leaf_means}
use Rattle.tables_right.specs.Decided.{decider_formed, decider_low, exact_physical, One, whole_one}

-- ---- an address, and the entry for it in a table whose addresses start at a
record Placed (k a x i : ℕ) : Type 0 where
  small : i < 512
  low : part k a i ≤ x
  high : x < part k a i + span k
  aligned : part k a i % span k ≡ 0
  rest : x % span k ≡ x - part k a i

placed : (k a x : ℕ) → k ≤ 2 → a % (512 * span k) ≡ 0 → a ≤ x → x < a + 512 * span k → Placed k a x (x / span k % 512)
unfolding span
placed zero a x h e l u = record { small = omega arith; low = omega arith; high = omega arith; aligned = omega arith; rest = omega arith }
placed (suc zero) a x h e l u = record { small = omega arith; low = omega arith; high = omega arith; aligned = omega arith; rest = omega arith }
placed (suc (suc zero)) a x h e l u = record { small = omega arith; low = omega arith; high = omega arith; aligned = omega arith; rest = omega arith }
placed (suc (suc (suc k))) a x h e l u = absurd (omega arith)

-- the addresses of a table are those of the entry above it
region_is : (k : ℕ) → suc k ≤ 2 → 512 * span k ≡ span (suc k)
unfolding span
region_is zero h = refl
region_is (suc zero) h = refl
region_is (suc (suc k)) h = absurd (omega arith)

-- ---- the entries stand among the numbers
module _ (l : List Mapping) (numbers : List ℕ) where
  entry_there : (k a t x : ℕ) → Stands numbers (512 * t) (tree l k a t) → entry_for numbers k (4096 * t) x ≡ entry l k (part k a (x / span k % 512)) (4096 * next l k a t (x / span k % 512))
  unfolding entry_for entry_at
  entry_there k a t x s =
      let z : 4096 * t / 8 ≡ 512 * t = omega arith in
      rw z (stands_rows numbers (512 * t) (entry_at l k a t) 512 (x / span k % 512) (omega arith) (stands_left numbers (512 * t) (rows (entry_at l k a t) 512) (flat (limb_at l k a t) 512) (rw (tree_is l k a t) at s)))

  -- and so do the tables below an entry
  limb_is : (k a t i : ℕ) → deeper l (suc k) (part (suc k) a i) ≡ true → limb_at l (suc k) a t i ≡ tree l k (part (suc k) a i) (next l (suc k) a t i)
  unfolding limb_at limb
  limb_is k a t i d = pick_yes _ _ _ d

  limb_there : (k a t i : ℕ) → i < 512 → Stands numbers (512 * t) (tree l k a t) → Stands numbers (512 * next l k a t i) (limb_at l k a t i)
  unfolding next
  limb_there k a t i h s =
      let u = stands_right numbers (512 * t) (rows (entry_at l k a t) 512) (flat (limb_at l k a t) 512) 512 (length_rows (entry_at l k a t) 512) (rw (tree_is l k a t) at s) in
      let v = stands_flat numbers (512 * t + 512) (limb_at l k a t) (below_at l k a) 512 (length_limb_at l k a t) 512 i h u in
      let z : 512 * t + 512 + 512 * total (below_at l k a) i ≡ 512 * (t + 1 + total (below_at l k a) i) = omega arith in
      rw z at v

room_below : (l : List Mapping) (k a t i : ℕ) → i < 512 → deeper l (suc k) (part (suc k) a i) ≡ true → t + tables l (suc k) a ≤ 68719476736 → next l (suc k) a t i + tables l k (part (suc k) a i) ≤ 68719476736
unfolding next below_at below
room_below l k a t i h d r =
    let z : below_at l (suc k) a i ≡ tables l k (part (suc k) a i) = pick_yes _ _ _ d in
    omega (arith, total_within (below_at l (suc k) a) i 512 h, tables_are l (suc k) a)

some_tables : (l : List Mapping) (k a : ℕ) → 1 ≤ tables l k a
some_tables l k a = omega (arith, tables_are l k a)

module _ (w : Window) (acc : Acceptable w) (l : List Mapping) (formed : Every (Formed w) l) where
  -- ---- an entry by its three cases
  only_low : (k b : ℕ) → whole l k b ≡ true → k ≤ 1
  unfolding whole
  only_low zero b e = omega arith
  only_low (suc zero) b e = omega arith
  only_low (suc (suc k)) b e = let z : false ≡ true = e in absurd (yes_or_no false z refl)

  module _ (k b x : ℕ) (deep : ℕ → Option Lead) (a : b % span k ≡ 0) (lo : b ≤ x) (hi : x < b + span k) where
    -- it says itself where the address leads
    leaf_right : b ≤ 549755813888 → whole l k b ≡ true → x % span k ≡ x - b → led deep (meaning k x (leaf k (lead_of l b))) ≡ lead_of l x
    unfolding lead_of leading led leaf
    leaf_right h e r = by_mapping (deciding l b) refl
      where
        o : One w acc l formed k b x
        o = whole_one w acc l formed k b x e h a lo hi

        by_mapping : (d : Option Mapping) → deciding l b ≡ d → led deep (meaning k x (leaf k (leading b (deciding l b)))) ≡ leading x (deciding l x)
        by_mapping None i = rw (o.alike, i, nothing_means k x)
        by_mapping (Some m) i =
            let j : deciding l x ≡ Some m = o.alike ∙ i in
            let p = exact_physical w acc l formed b m i in
            let q = exact_physical w acc l formed x m j in
            let y = decider_low w l formed b m i in
            let z : physical m b + x % span k ≡ physical m x = omega arith in
            rw (o.alike, i, leaf_means k x (physical m b) m.attr (only_low k b e) (o.starts m i) (omega arith) (decider_formed w l formed b m i).attributes, z)

    -- no mapping touches it
    nothing_right : touched l b (span k) ≡ false → led deep (meaning k x 0) ≡ lead_of l x
    unfolding lead_of leading led
    nothing_right n = rw (nothing_means k x, untouched l b (span k) x n lo hi)

    entry_right :
        (t : ℕ) → b ≤ 549755813888 → x % span k ≡ x - b →
        (whole l k b ≡ false → touched l b (span k) ≡ true → led deep (meaning k x (table_number t)) ≡ lead_of l x) →
        led deep (meaning k x (entry l k b t)) ≡ lead_of l x
    unfolding entry
    entry_right t h r down =
        by (λ (c : Bool). whole l k b ≡ c → led deep (meaning k x (pick c (leaf k (lead_of l b)) (pick (touched l b (span k)) (table_number t) 0))) ≡ lead_of l x) (whole l k b)
        (λ _ y. rw (pick_yes {A = ℕ} true) (leaf_right h y r))
        (λ _ y. rw (pick_no {A = ℕ} false)
        (by (λ (c : Bool). touched l b (span k) ≡ c → led deep (meaning k x (pick c (table_number t) 0)) ≡ lead_of l x) (touched l b (span k))
        (λ _ f. rw (pick_yes {A = ℕ} true) (down y f)) (λ _ f. rw (pick_no {A = ℕ} false) (nothing_right f)) refl))
        refl

  -- ---- level by level
  pub walk_right :
      (numbers : List ℕ) (x k a t : ℕ) → k ≤ 2 → a % (512 * span k) ≡ 0 → a ≤ x → x < a + 512 * span k → x ≤ 549755813888 → t + tables l k a ≤ 68719476736 →
      Stands numbers (512 * t) (tree l k a t) → descended numbers (suc k) (4096 * t) x ≡ lead_of l x
  unfolding descended whole deeper led
  walk_right numbers x zero a t h e lo hi top room s =
      let i = placed zero a x h e lo hi in
      rw (entry_there l numbers zero a t x s)
      (entry_right zero _ x (λ (at : ℕ). descended numbers zero at x) i.aligned i.low i.high _ (omega (arith, i.low)) i.rest
      (λ f y. let z : true ≡ false = f in absurd (yes_or_no true refl z)))
  walk_right numbers x (suc k) a t h e lo hi top room s =
      let n = x / span (suc k) % 512 in
      let i = placed (suc k) a x h e lo hi in
      let b = part (suc k) a n in
      let g = region_is k h in
      let c : b % (512 * span k) ≡ 0 = rw g i.aligned in
      let v : x < b + 512 * span k = rw g i.high in
      let u = next l (suc k) a t n in
      rw (entry_there l numbers (suc k) a t x s)
      (entry_right (suc k) b x (λ (at : ℕ). descended numbers (suc k) at x) i.aligned i.low i.high (4096 * u) (omega (arith, i.low)) i.rest
      (λ f y.
      let d : deeper l (suc k) b ≡ true = both_true _ _ (not_true _ f) y in
      let q = room_below l k a t n i.small d room in
      rw (table_means k u (omega (arith, some_tables l k b)) x)
      (walk_right numbers x k b u (omega arith) c i.low v top q (rw (limb_is l numbers k a t n d) at (limb_there l numbers (suc k) a t n i.small s)))))
