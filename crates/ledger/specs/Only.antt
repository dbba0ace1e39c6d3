-- Those of a list that pass a test.
use Rattle.std.specs.Prelude.{◌≡◌, Bool, ◌&&◌}
use Rattle.std.proofs.Math.Path.{refl}
use Rattle.std.proofs.Math.Bool.{true, false}
use mathlib.Core.List.Memᴰ
use mathlib.Core.List.{List, [], ◌∷◌, ◌++◌, Memᴰ}
use Rattle.std.proofs.Math.Logic.{⊎_elim}
use Prim.Native.Nat.{suc, ◌≤◌}
use Rattle.std.proofs.Common.{arith}
use Rattle.std.proofs.Math.ListN.{length}
use Rattle.rules.specs.Choice.{pick, chosen, pick_yes, yes_or_no}

unfoldable pub only : {A : Type 0} → (A → Bool) → List A → List A
only p [] = []
only p (a ∷ l) = pick (p a) (a ∷ only p l) (only p l)

module _ {A : Type 0} (p : A → Bool) where
  -- one that passes is among them
  pub only_has : (a : A) (l : List A) → p a ≡ true → Memᴰ a l → Memᴰ a (only p l)
  unfolding only
  only_has a [] e m = m
  only_has a (b ∷ l) e m =
      chosen (Memᴰ a) (p b) _ _
      (λ y. ⊎_elim (λ (f : a ≡ b). Memᴰ.head f) (λ (n : Memᴰ a l). Memᴰ.tail (only_has a l e n)) (Memᴰ.cases_cons m))
      (λ y. ⊎_elim (λ (f : a ≡ b). absurd (yes_or_no _ (rw (← f) e) y)) (only_has a l e) (Memᴰ.cases_cons m))

  -- where none passes there are none
  pub only_none : (l : List A) → ((a : A) → Memᴰ a l → p a ≡ true → ⊥) → only p l ≡ []
  unfolding only
  only_none [] f = refl
  only_none (b ∷ l) f =
      chosen (λ (k : List A). k ≡ []) (p b) _ _ (λ y. absurd (f b (Memᴰ.head refl) y)) (λ n. only_none l (λ a m. f a (Memᴰ.tail m)))

  -- one that passes counts, with all that pass after it
  pub only_more : (before : List A) (a : A) (l : List A) → p a ≡ true → suc (length (only p l)) ≤ length (only p (before ++ (a ∷ l)))
  unfolding only
  only_more [] a l e = rw (pick_yes _ (a ∷ only p l) (only p l) e) (omega arith)
  only_more (b ∷ before) a l e =
      let h = only_more before a l e in
      chosen (λ (k : List A). suc (length (only p l)) ≤ length k) (p b) _ _ (λ y. omega arith) (λ y. h)

  -- those of a list that one more may stand before
  pub only_next : (b : Bool) (a : A) (l : List A) → only p (pick b (a ∷ l) l) ≡ pick (b && p a) (a ∷ only p l) (only p l)
  unfolding only pick
  only_next true a l = refl
  only_next false a l = refl
