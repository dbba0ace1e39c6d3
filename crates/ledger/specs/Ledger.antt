-- What becomes of a ledger entry, and what the ledger then answers.
use Rattle.std.specs.Prelude.{◌≡◌, refl, Bool, true, false, List, [], ◌∷◌, ℕ, ◌+◌, ◌-◌, ◌≤◌, ltb, Err, None, Ok, Option, Result, Some, ⊤}
use Rattle.std.proofs.Common.{sym}
use Rattle.rules.specs.declared.Fault.TheVariants.{OutOfRange, Taken}
use Rattle.rules.specs.declared.Fault.{Fault}
use Rattle.rules.specs.Sizes.{last_owner, last_kind, last_handler}
use Rattle.rules.specs.Choice.{yes_or_no}
use Rattle.rules.specs.Tests.{refuses, sieve}
use Rattle.tools.specs.Search.{any}
pub use Rattle.ledger.specs.Places.{empty, handler, used, recorded, empty_used, empty_handler, rest_unread, rest_uncounted}
pub use Rattle.ledger.specs.Room.{Proper, empty_proper}
unfoldable pub use Rattle.ledger.specs.Places.{names}
unfoldable pub use Rattle.ledger.specs.Room.{taken}

-- refused for a number outside its range, and then for a pair that has a handler already; a refused entry changes nothing
unfoldable pub entered : List ℕ → ℕ → ℕ → ℕ → ℕ → Result ⊤ Fault × List ℕ
entered t first last kind number =
    sieve (λ (why : Result ⊤ Fault). (why, t))
    (refuses (ltb last first) (Err OutOfRange)
    ∷ refuses (ltb last_owner last) (Err OutOfRange)
    ∷ refuses (ltb last_kind kind) (Err OutOfRange)
    ∷ refuses (ltb last_handler number) (Err OutOfRange)
    ∷ refuses (any (taken t kind) first (last - first + 1)) (Err Taken)
    ∷ [])
    ((Ok tt), recorded t first last kind number)

abbrev pub is_accepted : Result ⊤ Fault → Bool
is_accepted (Ok tt) = true
is_accepted (Err OutOfRange) = false
is_accepted (Err Taken) = false

-- ---- for this crate's code
module _ (t : List ℕ) (kind owner : ℕ) (found : Option ℕ) (is : found ≡ handler t kind owner) where
  pub is_taken : (number : ℕ) → found ≡ Some number → true ≡ taken t kind owner
  unfolding taken
  is_taken number e = rw (← is, e)

  pub is_free : found ≡ None → false ≡ taken t kind owner
  unfolding taken
  is_free e = rw (← is, e)

pub accepts : (t u : List ℕ) (first last kind number : ℕ) → u ≡ recorded t first last kind number
    → ◌≡◌ {A = Result ⊤ Fault × List ℕ} ((Ok tt), u) ((Ok tt), recorded t first last kind number)
accepts t u first last kind number e = rw e

-- ---- an entry by its three outcomes
-- every number is in its range
pub record Ranged (first last kind number : ℕ) : Type 0 where
  pub order : first ≤ last
  pub owners : last ≤ last_owner
  pub kinds : kind ≤ last_kind
  pub handlers : number ≤ last_handler

-- none of the pairs has a handler
abbrev pub Free : List ℕ → ℕ → ℕ → ℕ → Type 0
Free t first last kind = (owner : ℕ) → first ≤ owner → owner ≤ last → handler t kind owner ≡ None

pub is_accepted_lem : (e : Result ⊤ Fault) → is_accepted e ≡ true → e ≡ (Ok tt)
is_accepted_lem (Ok tt) h = refl
is_accepted_lem (Err OutOfRange) h = absurd (yes_or_no true refl (sym h))
is_accepted_lem (Err Taken) h = absurd (yes_or_no true refl (sym h))
