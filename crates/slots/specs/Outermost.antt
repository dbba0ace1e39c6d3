-- Of mappings of which any two are one inside the other or clear of each other, those that lie in no other: they are clear of each
-- other, no more than there were, and whatever one of all touches one of them touches.
use Rattle.std.specs.Prelude.{◌≡◌, refl, Bool, ◌&&◌, ◌⊎◌, ◌+◌, ◌≤◌, ◌<◌, ltb, length}
use Rattle.std.proofs.Math.Bool.{true, false}
use mathlib.Core.List.{List, [], ◌∷◌}
use Rattle.std.proofs.Math.Logic.{⊎_elim}
use native.Mathlib.Omega.{arith}
use Rattle.std.proofs.Math.Dec.{leb}
use borrow.Author.Tests.{leb-true, le-leb, lt-ltb, ltb-true}
use Rattle.rules.specs.Choice.{pick, pick_yes, pick_no, either, both_true, left_true, right_true, first_or, second_or, not_first, not_second, yes_or_no}
use Rattle.mapping.specs.Mapping.{any_of}
use Rattle.mapping.specs.Entries.{Every}
use Rattle.ranges.specs.declared.Mapping.{Mapping}

-- the virtual range of the first, which is not empty, lies in that of the second
pub record Within (n m : Mapping) : Type 0 where
  pub some : 0 < n.size
  pub low : m.virt ≤ n.virt
  pub high : n.virt + n.size ≤ m.virt + m.size

-- one physical range ends before the other starts
abbrev pub Clear : Mapping → Mapping → Type 0
Clear n m = (n.phys + n.size ≤ m.phys) ⊎ (m.phys + m.size ≤ n.phys)

-- one of these three
abbrev pub Kin : Mapping → Mapping → Type 0
Kin n m = Within n m ⊎ (Within m n ⊎ Clear n m)

unfoldable pub AllKin : List Mapping → Type 0
AllKin [] = Unit {0}
AllKin (m ∷ l) = Every (Kin m) l × AllKin l

unfoldable pub AllClear : List Mapping → Type 0
AllClear [] = Unit {0}
AllClear (m ∷ l) = Every (Clear m) l × AllClear l

-- ---- the first by a test
unfoldable within : Mapping → Mapping → Bool
within n m = ltb 0 n.size && (leb m.virt n.virt && leb (n.virt + n.size) (m.virt + m.size))

module _ (n m : Mapping) where
  within_so : within n m ≡ true → Within n m
  unfolding within
  within_so e =
      let r = right_true (ltb 0 n.size) (leb m.virt n.virt && leb (n.virt + n.size) (m.virt + m.size)) e in
      record {
        some = ltb-true _ _ (left_true (ltb 0 n.size) _ e);
        low = leb-true _ _ (left_true (leb m.virt n.virt) _ r);
        high = leb-true _ _ (right_true (leb m.virt n.virt) _ r);
      }

  within_if : Within n m → within n m ≡ true
  unfolding within
  within_if h = both_true _ _ (lt-ltb 0 n.size h.some) (both_true _ _ (le-leb _ _ h.low) (le-leb _ _ h.high))

-- the mappings of a list that do not lie in this one
unfoldable beside : Mapping → List Mapping → List Mapping
beside m [] = []
beside m (n ∷ l) = pick (within n m) (beside m l) (n ∷ beside m l)

module _ (m : Mapping) where
  beside_in : (n : Mapping) (l : List Mapping) → within n m ≡ true → beside m (n ∷ l) ≡ beside m l
  unfolding beside
  beside_in n l e = pick_yes (within n m) _ _ e

  beside_out : (n : Mapping) (l : List Mapping) → within n m ≡ false → beside m (n ∷ l) ≡ n ∷ beside m l
  unfolding beside
  beside_out n l e = pick_no (within n m) _ _ e

  beside_few : (l : List Mapping) → length (beside m l) ≤ length l
  unfolding beside
  beside_few [] = omega arith
  beside_few (n ∷ l) =
      let rest = beside_few l in
      either (within n m) (λ y. rw (beside_in n l y) (omega arith)) (λ k. rw (beside_out n l k) (omega arith))

  beside_every : (Q : Mapping → Type 0) (l : List Mapping) → Every Q l → Every Q (beside m l)
  unfolding Every beside
  beside_every Q [] h = tt
  beside_every Q (n ∷ l) h =
      let rest = beside_every Q l h.1 in
      either (within n m) (λ y. rw (beside_in n l y) rest) (λ k. rw (beside_out n l k) (h.0, rest))

  beside_clear : (l : List Mapping) → AllClear l → AllClear (beside m l)
  unfolding AllClear beside
  beside_clear [] h = tt
  beside_clear (n ∷ l) h =
      let rest = beside_clear l h.1 in
      either (within n m) (λ y. rw (beside_in n l y) rest) (λ k. rw (beside_out n l k) (beside_every (Clear n) l h.0, rest))

  -- of those, it lies in none and they are its kin: they are clear of it
  beside_apart : (l : List Mapping) → any_of (within m) l ≡ false → Every (Kin m) l → Every (Clear m) (beside m l)
  unfolding Every any_of beside
  beside_apart [] e h = tt
  beside_apart (n ∷ l) e h =
      let rest = beside_apart l (not_second (within m n) _ e) h.1 in
      either (within n m) (λ y. rw (beside_in n l y) rest)
      (λ k. rw (beside_out n l k) (
        ⊎_elim (λ (z : Within m n). absurd (yes_or_no _ (within_if m n z) (not_first (within m n) _ e)))
            (λ (z : Within n m ⊎ Clear m n). ⊎_elim (λ (y : Within n m). absurd (yes_or_no _ (within_if n m y) k)) (λ (y : Clear m n). y) z) h.0,
        rest,
      ))

-- a test that passes with a mapping passes with one in which that lies
abbrev pub Grows : (Mapping → Bool) → Type 0
Grows p = (n m : Mapping) → Within n m → p n ≡ true → p m ≡ true

module _ (p : Mapping → Bool) (grows : Grows p) (m : Mapping) where
  -- it lies in one of them
  any_around : (l : List Mapping) → any_of (within m) l ≡ true → p m ≡ true → any_of p l ≡ true
  unfolding any_of
  any_around [] e h = let z : false ≡ true = e in absurd (yes_or_no false z refl)
  any_around (n ∷ l) e h =
      either (within m n) (λ y. first_or (p n) _ (grows m n (within_so m n y) h)) (λ k. second_or (p n) _ (any_around l (rw k at e) h))

  -- some of them lie in it
  any_beside : (l : List Mapping) → any_of p l ≡ true → any_of p (m ∷ beside m l) ≡ true
  unfolding any_of beside
  any_beside [] e = let z : false ≡ true = e in absurd (yes_or_no false z refl)
  any_beside (n ∷ l) e =
      either (within n m)
      (λ y. rw (beside_in m n l y)
      (either (p n) (λ h. first_or (p m) _ (grows n m (within_so n m y) h)) (λ k. any_beside l (rw k at e))))
      (λ o. rw (beside_out m n l o)
      (either (p n) (λ h. second_or (p m) _ (first_or (p n) _ h))
      (λ k. either (p m) (λ h. first_or (p m) _ h)
      (λ u. second_or (p m) _ (second_or (p n) _ (rw u at (any_beside l (rw k at e))))))))

any_first : (p : Mapping → Bool) (m : Mapping) (l : List Mapping) → p m ≡ true → any_of p (m ∷ l) ≡ true
unfolding any_of
any_first p m l h = first_or (p m) _ h

any_later : (p : Mapping → Bool) (m : Mapping) (l : List Mapping) → p m ≡ false → any_of p (m ∷ l) ≡ true → any_of p l ≡ true
unfolding any_of
any_later p m l k e = rw k at e

-- ---- those that lie in no other
pub record Outermost (l : List Mapping) : Type 1 where
  pub outer : List Mapping
  pub few : length outer ≤ length l
  pub clear : AllClear outer
  pub still : (Q : Mapping → Type 0) → Every Q l → Every Q outer
  pub touches : (p : Mapping → Bool) → Grows p → any_of p l ≡ true → any_of p outer ≡ true

-- by the outcomes of a test, of what speaks of all statements about a mapping
which : {P : Type 1} (b : Bool) → (b ≡ true → P) → (b ≡ false → P) → P
which true y n = y refl
which false y n = n refl

pub outermost : (l : List Mapping) → AllKin l → Outermost l
unfolding AllKin AllClear Every
outermost [] h = record { outer = []; few = omega arith; clear = tt; still = λ Q e. tt; touches = λ p g e. e }
outermost (m ∷ l) h =
    let r = outermost l h.1 in
    which (any_of (within m) r.outer)
    (λ y. record {
      outer = r.outer;
      few = omega (arith, r.few);
      clear = r.clear;
      still = λ Q e. r.still Q e.1;
      touches = λ p g e. either (p m) (λ h. any_around p g m r.outer y h) (λ n. r.touches p g (any_later p m l n e));
    })
    (λ k. record {
      outer = m ∷ beside m r.outer;
      few = omega (arith, r.few, beside_few m r.outer);
      clear = (beside_apart m r.outer k (r.still (Kin m) h.0), beside_clear m r.outer r.clear);
      still = λ Q e. (e.0, beside_every m Q r.outer (r.still Q e.1));
      touches = λ p g e. either (p m) (λ h. any_first p m (beside m r.outer) h) (λ n. any_beside p g m r.outer (r.touches p g (any_later p m l n e)));
    })
