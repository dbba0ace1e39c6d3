-- No call has two handlers: whatever entries are tried, in whatever order, from an empty ledger on, at most one of them serves a pair.
use Rattle.std.proofs.Math.Path.{◌≡◌}
use Rattle.std.specs.Prelude.{refl, Bool, ℕ, ◌≤◌, length, None, Option, Result, Some, ⊤}
use Rattle.std.proofs.Common.{sym, ap, arith}
use mathlib.Core.List.Memᴰ
use mathlib.Core.List.{List, [], ◌∷◌, Memᴰ}
use Rattle.rules.specs.declared.Fault.{Fault}
use Rattle.rules.specs.Choice.{pick}
use Rattle.ledger.specs.Ledger.{entered, is_accepted, names}

-- an entry that somebody tries to make: the owners from `first` to `last`, of one type, for the handler `number`
pub record Attempt : Type 0 where
  pub first : ℕ
  pub last : ℕ
  pub kind : ℕ
  pub number : ℕ

-- what a ledger answers to it, and the ledger that is left
abbrev pub answer : List ℕ → Attempt → Result ⊤ Fault
answer t a = (entered t a.first a.last a.kind a.number).0

abbrev pub next : List ℕ → Attempt → List ℕ
next t a = (entered t a.first a.last a.kind a.number).1

-- the ledger once all have been tried, one after the other
unfoldable pub ran : List ℕ → List Attempt → List ℕ
ran t [] = t
ran t (a ∷ rest) = ran (next t a) rest

-- those of them that were accepted, each judged by the ledger that it met
unfoldable pub accepted : List ℕ → List Attempt → List Attempt
accepted t [] = []
accepted t (a ∷ rest) = pick (is_accepted (answer t a)) (a ∷ accepted (next t a) rest) (accepted (next t a) rest)

-- the pair is one of those that an attempt names
abbrev pub covers : ℕ → ℕ → Attempt → Bool
covers kind owner a = names a.first a.last a.kind kind owner

-- no attempt, and nobody; or one attempt alone, and its handler
pub data One : List Attempt → Option ℕ → Type 0 where
  none : One [] None
  one : (a : Attempt) → One (a ∷ []) (Some a.number)

-- ---- its three parts, each for itself
pub its : {a : Attempt} {l : List Attempt} {found : Option ℕ} → One l found → Memᴰ a l → found ≡ Some a.number
its none m = absurd (Memᴰ.not-nil m)
its (one b) m = ap (λ (a : Attempt). Some a.number) (sym (Memᴰ.eq_of_singleton m))

pub nobodys : {l : List Attempt} {found : Option ℕ} → One l found → l ≡ [] → found ≡ None
nobodys none e = refl
nobodys (one a) e = absurd (let z : ◌≡◌ {A = ℕ} 0 1 = cc in omega arith)

pub at_most_one : {l : List Attempt} {found : Option ℕ} → One l found → length l ≤ 1
at_most_one none = omega arith
at_most_one (one a) = omega arith
