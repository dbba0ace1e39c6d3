-- Entries that no mapping touches, several at once: they are 0 and have no table below them.
use Rattle.std.specs.Prelude.{◌≡◌, Bool, false, List, [], ◌∷◌, set}
use Rattle.std.proofs.Math.Path.{refl}
use Rattle.std.proofs.Common.{sym, ◌∙◌, add-mul, add-one, arith}
use Prim.Native.Nat.{ℕ, zero, suc, ◌+◌, ◌-◌, ◌*◌, ◌/◌, ◌≤◌, ◌<◌}
use Rattle.rules.specs.Choice.{pick_no}
use Rattle.tools.specs.Laid.{laid, then, laid_one}
use Rattle.ranges.specs.declared.Mapping.{Mapping}
use Rattle.mapping.specs.Mapping.{touched}
use Rattle.mapping.specs.Lists.{held, held_some}
use Rattle.descriptors.specs.Numbers.{span, span_some}
use Rattle.stretches.specs.Steady.{steady, steady_most}
use Rattle.entries.specs.Touched.{untouched_deeper, untouched_entry, steady_untouched}
use Rattle.layout.specs.Rows.{rows, flat, total, nil, length_rows, total_skip, flat_skip, rows_skip}
use Rattle.layout.specs.Layout.{part, below, below_at, next, entry_at}
use Rattle.layout.specs.Limbs.{limb, limb_at}

-- of so many entries from the one at b on, no mapping touches the first r
pub record Gap (l : List Mapping) (k b most r : ℕ) : Type 0 where
  pub few : r ≤ most
  pub clear : (j : ℕ) → j < r → touched l (b + j * span k) (span k) ≡ false

-- ---- how the code finds one
pub gap_fits : (k s most : ℕ) → s ≡ span k → most ≤ 512 → most * s ≤ 549755813888
unfolding span
gap_fits zero s most e h = rw e (omega arith)
gap_fits (suc zero) s most e h = rw e (omega arith)
gap_fits (suc (suc k)) s most e h = rw e (omega arith)

pub size_some : (k s : ℕ) → s ≡ span k → 0 < s
size_some k s e = omega (arith, span_some k)

-- whole entries within so many bytes
within_bytes : (k n most q : ℕ) → n ≤ most * span k → q ≡ n / span k → (q ≤ most) × ((j : ℕ) → j < q → j * span k + span k ≤ n)
unfolding span
within_bytes zero n most q h e = (omega arith, λ j g. omega arith)
within_bytes (suc zero) n most q h e = (omega arith, λ j g. omega arith)
within_bytes (suc (suc k)) n most q h e = (omega arith, λ j g. omega arith)

module _ (t : List ℕ) (world k b most : ℕ) where
  pub gap_none : Gap (held t world) k b most 0
  gap_none = record { few = omega arith; clear = λ j h. absurd (omega arith) }

  module _ (s : ℕ) (v : Bool) (e : s ≡ span k) (said : v ≡ touched (held t world) b s) (no : v ≡ false) where
    here : touched (held t world) b (span k) ≡ false
    here = rw (← e) (sym said ∙ no)

    pub gap_one : 0 < most → Gap (held t world) k b most 1
    gap_one h = record { few = omega arith; clear = λ j g. let y : j ≡ 0 = omega arith in let z : b + 0 * span k ≡ b = omega arith in rw (y, z) here }

    pub gap_many : (n q : ℕ) → n ≡ steady (held t world) b (most * s) → q ≡ n / s → Gap (held t world) k b most q
    gap_many n q f g =
        let l = held t world in
        let i : n ≤ most * span k = rw (← e) (omega (arith, steady_most l b (most * s))) in
        let w = within_bytes k n most q i (g ∙ rw e) in
        record {
          few = w.0;
          clear = λ j h. let y = w.1 j h in
              steady_untouched l (held_some t world) b s (most * s) (b + j * span k) (span k) (size_some k s e) (sym said ∙ no) (omega arith) (omega arith) (omega (arith, span_some k));
        }

pub ruleset gaps = (gap_none, gap_one, gap_many)

-- ---- how a loop passes over it
module _ (l : List Mapping) (k a i b r : ℕ) (e : b ≡ part k a i) (g : Gap l k b (512 - i) r) where
  pub gap_inside : i ≤ 512 → i + r ≤ 512
  gap_inside h = omega (arith, g.few)

  part_at : (j : ℕ) → part k a (i + j) ≡ b + j * span k
  part_at j = let z = add-mul i j (span k) in omega arith

  untouched_at : (j : ℕ) → j < r → touched l (part k a (i + j)) (span k) ≡ false
  untouched_at j h = rw (part_at j) (g.clear j h)

  none_below : (k b : ℕ) → touched l b (span k) ≡ false → below l k b ≡ 0
  unfolding below
  none_below zero b n = refl
  none_below (suc k) b n = pick_no _ _ _ (untouched_deeper l (suc k) b n)

  no_limb : (k b t : ℕ) → touched l b (span k) ≡ false → limb l k b t ≡ []
  unfolding limb
  no_limb zero b t n = refl
  no_limb (suc k) b t n = pick_no _ _ _ (untouched_deeper l (suc k) b n)

  total_passed : total (below_at l k a) (i + r) ≡ total (below_at l k a) i
  unfolding below_at
  total_passed = total_skip i (below_at l k a) r (λ j h. none_below k (part k a (i + j)) (untouched_at j h))

  pub count_passed : (n : ℕ) → n ≡ 1 + total (below_at l k a) i → n ≡ 1 + total (below_at l k a) (i + r)
  count_passed n inv = omega (arith, total_passed)

  module _ (t : ℕ) where
    pub next_passed : (x : ℕ) → x ≡ next l k a t i → x ≡ next l k a t (i + r)
    unfolding next
    next_passed x inv = omega (arith, total_passed)

    module _ (n m : List ℕ) where
      pub limbs_passed : m ≡ laid n (512 * t + 512) (flat (limb_at l k a t) i) → m ≡ laid n (512 * t + 512) (flat (limb_at l k a t) (i + r))
      unfolding limb_at
      limbs_passed inv =
          rw (flat_skip i (limb_at l k a t) r (λ j h. no_limb k (part k a (i + j)) (next l k a t (i + j)) (untouched_at j h))) inv

      pub row_passed : (m' : List ℕ) → m ≡ laid n (512 * t) (rows (entry_at l k a t) i) → m' ≡ laid m (512 * t + i) (rows nil r) → m' ≡ laid n (512 * t) (rows (entry_at l k a t) (i + r))
      unfolding entry_at
      row_passed m' inv h =
          rw (rows_skip i (entry_at l k a t) r (λ j h. untouched_entry l k (part k a (i + j)) (untouched_at j h) (4096 * next l k a t (i + j))))
          (then n m m' (rows (entry_at l k a t) i) (rows nil r) (512 * t) (512 * t + i) i (length_rows (entry_at l k a t) i) refl inv h)

-- ---- zeros, one by one
module _ (n : List ℕ) (at : ℕ) where
  pub zeros_start : n ≡ laid n at (rows nil 0)
  unfolding rows laid
  zeros_start = refl

  pub zeros_go : (m m' : List ℕ) (i : ℕ) → m ≡ laid n at (rows nil i) → m' ≡ set m (at + i) 0 → m' ≡ laid n at (rows nil (i + 1))
  unfolding rows nil
  zeros_go m m' i inv h = rw (add-one i) (then n m m' (rows nil i) (0 ∷ []) at (at + i) i (length_rows nil i) refl inv (h ∙ laid_one m (at + i) 0))

  pub zeros_end : (m : List ℕ) (i k : ℕ) → m ≡ laid n at (rows nil i) → k ≤ i → i ≤ k → m ≡ laid n at (rows nil k)
  zeros_end m i k inv h u = let z : i ≡ k = omega arith in inv ∙ rw z
