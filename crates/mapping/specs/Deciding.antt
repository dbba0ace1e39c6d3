-- Which mapping of a list decides an address: one of the list that holds it, and no larger than any other that does.
use Rattle.std.specs.Prelude.{◌≡◌, ◌≤◌, Bool, true, false, List, [], ◌∷◌, ◌++◌, None, Option, Some}
use Rattle.std.proofs.Math.Path.{refl}
use Rattle.rules.specs.Choice.{pick_no, yes_or_no, not_first, not_second}
use Rattle.mapping.specs.Mapping.{any_of, smallest_of}
use Rattle.mapping.specs.Entries.{Every, Among}
use Rattle.ranges.specs.declared.Mapping.{Mapping}

-- an entry that is the smallest of those that pass
pub record Smallest (p : Mapping → Bool) (l : List Mapping) (m : Mapping) : Type 0 where
  pub among : Among m l
  pub passes : p m ≡ true
  pub least : Every (λ (n : Mapping). p n ≡ true → m.size ≤ n.size) l

-- what a search for the smallest gives
pub data Sought (p : Mapping → Bool) (l : List Mapping) : Option Mapping → Type 0 where
  missing : any_of p l ≡ false → Sought p l None
  smallest : (m : Mapping) → Smallest p l m → Sought p l (Some m)

pub every_wider : (P Q : Mapping → Type 0) (l : List Mapping) → ((m : Mapping) → P m → Q m) → Every P l → Every Q l
unfolding Every
every_wider P Q [] f e = tt
every_wider P Q (m ∷ l) f e = (f m e.0, every_wider P Q l f e.1)

pub every_silent : (p : Mapping → Bool) (Q : Mapping → Type 0) (l : List Mapping) → any_of p l ≡ false → Every (λ (n : Mapping). p n ≡ true → Q n) l
unfolding Every any_of
every_silent p Q [] h = tt
every_silent p Q (m ∷ l) h = (λ y. absurd (yes_or_no _ y (not_first (p m) _ h)), every_silent p Q l (not_second (p m) _ h))

-- two tests that agree on each entry
pub smallest_alike : (p q : Mapping → Bool) (l : List Mapping) → Every (λ (m : Mapping). p m ≡ q m) l → smallest_of p l ≡ smallest_of q l
unfolding smallest_of Every
smallest_alike p q [] e = refl
smallest_alike p q (m ∷ l) e = rw (e.0, smallest_alike p q l e.1)

-- ---- with one entry more
pub smallest_put : (p : Mapping → Bool) (a : List Mapping) (m : Mapping) (b : List Mapping) → p m ≡ false → smallest_of p (a ++ m ∷ b) ≡ smallest_of p (a ++ b)
unfolding smallest_of
smallest_put p [] m b e = pick_no (p m) _ _ e
smallest_put p (x ∷ a) m b e = rw (smallest_put p a m b e)
