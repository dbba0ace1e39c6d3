-- Lists: what is so of each item, and what is among them.
use Rattle.std.specs.Prelude.{◌≡◌, ◌⊎◌, take}
use mathlib.Core.List.{List, [], ◌∷◌, ◌++◌}
use Rattle.std.proofs.Common.{inl, inr, ⊎_elim}
use Prim.Native.Nat.{ℕ, zero, suc}

-- each item is so
unfoldable pub Each : {A : Type 0} → (A → Type 0) → List A → Type 0
Each P [] = Unit {0}
Each P (a ∷ l) = P a × Each P l

-- the item is one of the list
unfoldable pub Among : {A : Type 0} → A → List A → Type 0
Among a [] = ⊥
Among a (b ∷ l) = (a ≡ b) ⊎ Among a l

module _ {A : Type 0} (P : A → Type 0) where
  pub each_append : (a b : List A) → Each P a → Each P b → Each P (a ++ b)
  unfolding Each
  each_append [] b e h = h
  each_append (x ∷ a) b e h = (e.0, each_append a b e.1 h)

  pub each_take : (n : ℕ) (l : List A) → Each P l → Each P (take n l)
  unfolding Each
  each_take zero l e = tt
  each_take (suc n) [] e = tt
  each_take (suc n) (x ∷ l) e = (e.0, each_take n l e.1)

  pub each_so : (Q : A → Type 0) → ((a : A) → P a → Q a) → (l : List A) → Each P l → Each Q l
  unfolding Each
  each_so Q f [] e = tt
  each_so Q f (x ∷ l) e = (f x e.0, each_so Q f l e.1)

pub among_left : {A : Type 0} (x : A) (a b : List A) → Among x a → Among x (a ++ b)
unfolding Among
among_left x [] b h = absurd h
among_left x (y ∷ a) b h = ⊎_elim (λ (e : x ≡ y). inl e) (λ (k : Among x a). inr (among_left x a b k)) h

pub among_right : {A : Type 0} (x : A) (a b : List A) → Among x b → Among x (a ++ b)
unfolding Among
among_right x [] b h = h
among_right x (y ∷ a) b h = inr (among_right x a b h)

-- what is so of each is so of one among them
pub among_each : {A : Type 0} (P : A → Type 0) (x : A) (l : List A) → Each P l → Among x l → P x
unfolding Each Among
among_each P x [] e h = absurd h
among_each P x (y ∷ l) e h = ⊎_elim (λ (z : x ≡ y). rw z e.0) (λ (k : Among x l). among_each P x l e.1 k) h
