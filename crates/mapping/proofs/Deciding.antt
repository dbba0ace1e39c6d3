-- Which mapping of a list decides an address: one of the list that holds it, and no larger than any other that does.
use Rattle.std.specs.Prelude.{◌≡◌, ℕ, ◌≤◌, Bool, true, false, List, [], ◌∷◌, nat_le, None, Option, Some}
use Rattle.std.proofs.Math.Path.{refl, ap}
use Rattle.std.proofs.Common.{sym, ⊎_elim}
use Rattle.std.proofs.Math.Logic.{inl, inr}
use native.Mathlib.Omega.{arith}
use borrow.Author.Tests.{leb-true, leb-false}
use Rattle.rules.specs.Choice.{pick, pick_yes, pick_no, by, chosen, yes_or_no, neither}
use Rattle.ranges.specs.Ranges.{within, within_low}
use Rattle.ranges.specs.Nested.{Inner, windowed, holding_meets}
use Rattle.mapping.specs.Mapping.{holds, clashes, any_of, lesser, smallest_of, deciding}
use Rattle.mapping.specs.Entries.{Every, Apart, Among, Inserted, every_among, any_among, apart_two, insert_every, insert_among}
use Rattle.ranges.specs.declared.Mapping.{Mapping}
use Rattle.mapping.specs.Deciding.{Smallest, Sought, every_silent, every_wider, missing, smallest, smallest_put}

module _ (p : Mapping → Bool) (m : Mapping) (l : List Mapping) where
  sought_here : p m ≡ true → (d : Option Mapping) → Sought p l d → Sought p (m ∷ l) (Some (lesser m d))
  unfolding lesser Every Among
  sought_here h None (missing a) = smallest m (record { among = inl refl; passes = h; least = (λ _. omega arith, every_silent p (λ (n : Mapping). m.size ≤ n.size) l a) })
  sought_here h (Some n) (smallest _ s) =
      by (λ (b : Bool). nat_le m.size n.size ≡ b → Sought p (m ∷ l) (Some (pick b m n))) (nat_le m.size n.size)
      (λ _ e. let k = leb-true m.size n.size e in
      rw (pick_yes true m n) (smallest m (record {
        among = inl refl;
        passes = h;
        least = (λ _. omega arith, every_wider _ _ l (λ q f y. let z = f y in omega arith) s.least);
      })))
      (λ _ e. let k = leb-false m.size n.size e in
      rw (pick_no false m n) (smallest n (record { among = inr s.among; passes = s.passes; least = (λ _. omega arith, s.least) })))
      refl

  sought_there : p m ≡ false → (d : Option Mapping) → Sought p l d → Sought p (m ∷ l) d
  unfolding Every Among any_of
  sought_there h None (missing a) = missing (neither (p m) _ h a)
  sought_there h (Some n) (smallest _ s) = smallest n (record { among = inr s.among; passes = s.passes; least = (λ y. absurd (yes_or_no _ y h), s.least) })

pub sought : (p : Mapping → Bool) (l : List Mapping) → Sought p l (smallest_of p l)
unfolding smallest_of any_of
sought p [] = missing refl
sought p (m ∷ l) =
    chosen (Sought p (m ∷ l)) (p m) (Some (lesser m (smallest_of p l))) (smallest_of p l)
    (λ y. sought_here p m l y (smallest_of p l) (sought p l))
    (λ k. sought_there p m l k (smallest_of p l) (sought p l))

-- ---- the mapping that decides an address
module _ (l : List Mapping) (x : ℕ) where
  module _ (m : Mapping) (e : deciding l x ≡ Some m) where
    pub deciding_is : Smallest (holds x) l m
    unfolding deciding
    deciding_is = of (Some m) (rw e at (sought (holds x) l)) refl
      where
        of : (d : Option Mapping) → Sought (holds x) l d → d ≡ Some m → Smallest (holds x) l m
        of None (missing a) e = let y : ◌≡◌ {A = ℕ} 0 1 = cc in absurd (omega arith)
        of (Some n) (smallest _ s) e = let z : n ≡ m = cc in (rw z at s)

    pub deciding_holds : within x m.virt m.size ≡ true
    unfolding holds
    deciding_holds = deciding_is.passes

    pub deciding_low : m.virt ≤ x
    deciding_low = within_low x m.virt m.size deciding_holds

  -- where none decides it, none holds it
  pub deciding_none : deciding l x ≡ None → any_of (holds x) l ≡ false
  unfolding deciding
  deciding_none e = of None (rw e at (sought (holds x) l)) refl
    where
      of : (d : Option Mapping) → Sought (holds x) l d → d ≡ None → any_of (holds x) l ≡ false
      of None (missing a) e = a
      of (Some n) (smallest _ s) e = let y : ◌≡◌ {A = ℕ} 0 1 = cc in absurd (omega arith)

  module _ (a : Apart l) (m : Mapping) (s : Smallest (holds x) l m) where
    -- in a list without clashes the smallest is one alone
    pub smallest_one : (n : Mapping) → Smallest (holds x) l n → m ≡ n
    smallest_one n t =
        ⊎_elim (λ (z : m ≡ n). z)
        (λ (z : clashes m n ≡ false).
        let f = every_among _ l n s.least t.among t.passes in
        let g = every_among _ l m t.least s.among s.passes in
        ⊎_elim (λ (y : Inner m n). let k = y.smaller in absurd (omega arith)) (λ (y : Inner n m). let k = y.smaller in absurd (omega arith))
        (windowed m n z (holding_meets m n x s.passes t.passes)))
        (apart_two l m n a s.among t.among)

    -- and so it decides
    pub smallest_decides : deciding l x ≡ Some m
    unfolding deciding
    smallest_decides = of (smallest_of (holds x) l) (sought (holds x) l)
      where
        of : (d : Option Mapping) → Sought (holds x) l d → d ≡ Some m
        of None (missing h) = absurd (yes_or_no _ (any_among (holds x) l m s.among s.passes) h)
        of (Some n) (smallest _ t) = ap Some (sym (smallest_one n t))

module _ {m : Mapping} {l l' : List Mapping} (i : Inserted m l l') (x : ℕ) where
  -- it decides the addresses that it holds and no smaller one does
  pub insert_decides : Apart l' → holds x m ≡ true → Every (λ (n : Mapping). holds x n ≡ true → m.size ≤ n.size) l → deciding l' x ≡ Some m
  insert_decides a h e =
      smallest_decides l' x a m (record {
        among = insert_among i;
        passes = h;
        least = insert_every (λ (n : Mapping). holds x n ≡ true → m.size ≤ n.size) i (λ _. omega arith) e;
      })

  -- the others are decided as before
  pub insert_leaves : holds x m ≡ false → deciding l' x ≡ deciding l x
  unfolding deciding
  insert_leaves h = rw (i.after, i.before) (smallest_put (holds x) i.front m i.back h)
