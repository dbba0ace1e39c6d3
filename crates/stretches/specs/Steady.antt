-- From an address on, how far a list decides as it does there.
use Rattle.std.specs.Prelude.{◌≡◌, min, false, List, [], ◌∷◌, ltb}
use Rattle.std.proofs.Math.Path.{refl, sym}
use Rattle.std.proofs.Common.{◌∙◌, add-one}
use Prim.Native.Nat.{ℕ, suc, ◌+◌, ◌-◌, ◌≤◌, ◌<◌}
use native.Mathlib.Omega.{arith}
use borrow.Author.Tests.{lt-ltb, le-ltb, ltb-true, ltb-false, eq-eqb, ne_eqb, eqb-true}
use Rattle.rules.specs.Sizes.{most_mappings}
use Rattle.rules.specs.Choice.{pick, picked, passed, chosen, either, pick_yes, pick_no}
use Rattle.ranges.specs.Ranges.{within_before, within_after}
use Rattle.ranges.specs.Question.{is_free}
use Rattle.ranges.specs.declared.Mapping.{Mapping}
use Rattle.mapping.specs.Mapping.{holds, deciding}
use Rattle.mapping.specs.Entries.{Every}
use Rattle.mapping.specs.Deciding.{smallest_alike}
use Rattle.mapping.specs.Places.{entry, gathered}
use Rattle.mapping.specs.Lists.{held, place, held_gathered}

unfoldable pub least : ℕ → ℕ → ℕ
least a b = pick (ltb a b) a b

-- of n addresses from x on, those before the mapping's next edge: its start, or its end where x lies in it
unfoldable pub stretch : Mapping → ℕ → ℕ → ℕ
stretch m x n =
    pick (is_free m) n
    (pick (ltb x m.virt) (least (m.virt - x) n) (pick (ltb (x - m.virt) m.size) (least (m.size - (x - m.virt)) n) n))

-- those before the next edge of any of them
unfoldable pub steady : List Mapping → ℕ → ℕ → ℕ
steady [] x n = n
steady (m ∷ l) x n = steady l x (stretch m x n)

-- ---- what it means
pub record Least (a b r : ℕ) : Type 0 where
  pub left : r ≤ a
  pub right : r ≤ b
  pub any : 0 < a → 0 < b → 0 < r

least_is : (a b : ℕ) → Least a b (least a b)
unfolding least
least_is a b =
    chosen (Least a b) (ltb a b) a b
    (λ y. let h = ltb-true a b y in record { left = omega arith; right = omega arith; any = λ p q. p })
    (λ n. let h = ltb-false a b n in record { left = omega arith; right = omega arith; any = λ p q. q })

-- the mapping holds each of the r addresses from x on, or none of them
pub record Even (m : Mapping) (x n r : ℕ) : Type 0 where
  pub most : r ≤ n
  pub any : 0 < n → 0 < r
  pub same : (y : ℕ) → x ≤ y → y < x + r → holds y m ≡ holds x m

module _ (m : Mapping) (x : ℕ) where
  below_is : (y : ℕ) → y < m.virt → holds y m ≡ false
  unfolding holds
  below_is y h = sym (within_before y m.virt m.size h)

  above_is : (y : ℕ) → m.virt ≤ y → holds y m ≡ ltb (y - m.virt) m.size
  unfolding holds
  above_is y h = sym (within_after y m.virt m.size h)

  -- an empty mapping holds nothing
  empty_is : (y : ℕ) → m.size ≡ 0 → holds y m ≡ false
  empty_is y e =
      either (ltb y m.virt) (λ b. below_is y (ltb-true _ _ b))
      (λ n. above_is y (ltb-false _ _ n) ∙ le-ltb (y - m.virt) m.size (omega arith))

  stretch_is : (n : ℕ) → Even m x n (stretch m x n)
  unfolding stretch
  stretch_is n =
      chosen (Even m x n) (is_free m) n _
      (λ f. let e = eqb-true m.size 0 f in record { most = omega arith; any = λ p. p; same = λ z lo hi. empty_is z e ∙ sym (empty_is x e) })
      (λ f. chosen (Even m x n) (ltb x m.virt) _ _
      (λ y. let h = ltb-true x m.virt y in
      let q = least_is (m.virt - x) n in
      record {
        most = q.right;
        any = λ p. q.any (omega arith) p;
        same = λ z lo hi. let u : z < m.virt = omega (arith, q.left) in below_is z u ∙ sym (below_is x h);
      })
      (λ no. let h = ltb-false x m.virt no in
      chosen (Even m x n) (ltb (x - m.virt) m.size) _ _
      (λ y. let g = ltb-true (x - m.virt) m.size y in
      let q = least_is (m.size - (x - m.virt)) n in
      record {
        most = q.right;
        any = λ p. q.any (omega arith) p;
        same = λ z lo hi. above_is z (omega arith) ∙ lt-ltb (z - m.virt) m.size (omega (arith, q.left)) ∙ sym y ∙ sym (above_is x h);
      })
      (λ y. let g = ltb-false (x - m.virt) m.size y in
      record {
        most = omega arith;
        any = λ p. p;
        same = λ z lo hi. above_is z (omega arith) ∙ le-ltb (z - m.virt) m.size (omega arith) ∙ sym y ∙ sym (above_is x h);
      })))

pub steady_most : (l : List Mapping) (x n : ℕ) → steady l x n ≤ n
unfolding steady
steady_most [] x n = omega arith
steady_most (m ∷ l) x n = omega (arith, steady_most l x (stretch m x n), (stretch_is m x n).most)

pub steady_some : (l : List Mapping) (x n : ℕ) → 0 < n → 0 < steady l x n
unfolding steady
steady_some [] x n h = h
steady_some (m ∷ l) x n h = steady_some l x (stretch m x n) ((stretch_is m x n).any h)

-- each mapping of the list holds all of these addresses or none
steady_even : (l : List Mapping) (x n y : ℕ) → x ≤ y → y < x + steady l x n → Every (λ (m : Mapping). holds y m ≡ holds x m) l
unfolding steady Every
steady_even [] x n y lo hi = tt
steady_even (m ∷ l) x n y lo hi =
    ((stretch_is m x n).same y lo (omega (arith, steady_most l x (stretch m x n))), steady_even l x (stretch m x n) y lo hi)

-- one mapping decides throughout, or none does
pub steady_decides : (l : List Mapping) (x n y : ℕ) → x ≤ y → y < x + steady l x n → deciding l y ≡ deciding l x
unfolding deciding
steady_decides l x n y lo hi = smallest_alike (holds y) (holds x) l (steady_even l x n y lo hi)

-- ---- how the code meets it
pub least_min : (a b r : ℕ) → r ≡ min a b → r ≡ least a b
unfolding least
least_min a b r e =
    e
    ∙ either (ltb a b)
    (λ y. let h = ltb-true a b y in let z : min a b ≡ a = omega arith in z ∙ sym (pick_yes (ltb a b) a b y))
    (λ f. let h = ltb-false a b f in let z : min a b ≡ b = omega arith in z ∙ sym (pick_no (ltb a b) a b f))

module _ (m : Mapping) (x n : ℕ) where
  pub stretch_empty : m.size ≡ 0 → n ≡ stretch m x n
  unfolding stretch
  stretch_empty h = picked _ _ _ _ (eq-eqb m.size 0 h) refl

  module _ (d : m.size ≡ 0 → ⊥) where
    pub stretch_before : (r : ℕ) → x < m.virt → r ≡ least (m.virt - x) n → r ≡ stretch m x n
    unfolding stretch
    stretch_before r h e = passed _ _ _ _ (ne_eqb m.size 0 d) (picked _ _ _ _ (lt-ltb x m.virt h) e)

    pub stretch_in : (r : ℕ) → m.virt ≤ x → x - m.virt < m.size → r ≡ least (m.size - (x - m.virt)) n → r ≡ stretch m x n
    unfolding stretch
    stretch_in r h g e =
        passed _ _ _ _ (ne_eqb m.size 0 d) (passed _ _ _ _ (le-ltb x m.virt h) (picked _ _ _ _ (lt-ltb (x - m.virt) m.size g) e))

    pub stretch_after : m.virt ≤ x → m.size ≤ x - m.virt → n ≡ stretch m x n
    unfolding stretch
    stretch_after h g =
        passed _ _ _ _ (ne_eqb m.size 0 d) (passed _ _ _ _ (le-ltb x m.virt h) (passed _ _ _ _ (le-ltb (x - m.virt) m.size g) refl))

pub ruleset stretching = (least_min, stretch_empty, stretch_before, stretch_in, stretch_after)

-- the loop: `left` is what the places below i leave
module _ (t : List ℕ) (w x : ℕ) where
  pub steady_starts : (n : ℕ) → steady (held t w) x n ≡ steady (gathered (place t w) 0 most_mappings) x n
  steady_starts n = rw (held_gathered t w)

  -- a free place has no edge
  free_edge : (m : Mapping) (l : List Mapping) (n : ℕ) → steady (entry m l) x n ≡ steady l x (stretch m x n)
  unfolding entry steady stretch
  free_edge m l n =
      either (is_free m) (λ y. rw (pick_yes (is_free m) l (m ∷ l) y, pick_yes (is_free m) n _ y)) (λ f. rw (pick_no (is_free m) l (m ∷ l) f))

  module _ (whole i left : ℕ) (inv : whole ≡ steady (gathered (place t w) i (most_mappings - i)) x left) where
    pub steady_goes : (m : Mapping) (r : ℕ) → i < most_mappings → m ≡ place t w i → r ≡ stretch m x left → whole ≡ steady (gathered (place t w) (i + 1) (most_mappings - (i + 1))) x r
    unfolding gathered
    steady_goes m r h e f =
        let z : most_mappings - i ≡ suc (most_mappings - (i + 1)) = omega arith in
        inv ∙ rw (z, add-one) (free_edge (place t w i) _ left ∙ rw (f, e))

    pub steady_ends : most_mappings ≤ i → left ≡ whole
    unfolding gathered steady
    steady_ends h = let z : most_mappings - i ≡ 0 = omega arith in sym (inv ∙ rw z)
