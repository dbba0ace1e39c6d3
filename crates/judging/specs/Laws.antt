-- How what the ledger says, and the eight numbers, lead to the whole judgement.
use Rattle.std.specs.Prelude.{◌≡◌, List, ℕ, get_or, None, Option, Some}
use Rattle.std.proofs.Common.{ap, ◌∙◌}
use Rattle.rules.specs.Tests.{contraries}
use Rattle.rules.specs.declared.Reason.TheVariants as Reason
use Rattle.identifiers.specs.Identifier.{identifier_of, parts, key_of}
use Rattle.identifiers.specs.declared.Identifier.{Identifier}
use Rattle.identifiers.specs.declared.Parts.{Parts}
use Rattle.judgements.specs.declared.Judged.{Judged}
use Rattle.judgements.specs.declared.Args.{Args}
use Rattle.judgements.specs.declared.Request.{Request}
use Rattle.judgements.specs.declared.Transfer.{Transfer}
use Rattle.judgements.specs.Judge.{HandlerSight, called_by, args_of, denied, transferring, by_number, by_row, found, by_handler}
use Rattle.judgements.specs.Read.{args_by, read_by_key}

-- ---- what the ledger says
module _ (s : HandlerSight) (a : Args) (key : ℕ) (k l : Option ℕ) (r : Judged) (same : k ≡ l) where
  pub by_nobody : k ≡ None → r ≡ denied Reason.Unserved → r ≡ found s a key l
  unfolding found
  by_nobody e h = rw (← same, e) h

  pub by_somebody : (h : ℕ) → k ≡ Some h → r ≡ by_handler s a key h → r ≡ found s a key l
  unfolding found
  by_somebody h e g = rw (← same, e) g

-- ---- what the table of transfers has
module _ (s : HandlerSight) (a : Args) (key h : ℕ) (k l : Option Transfer) (r : Judged) (same : k ≡ l) where
  pub by_transfer : (t : Transfer) → k ≡ Some t → r ≡ transferring t s.caller s.owners s.own s.theirs a → r ≡ by_row s a key h l
  unfolding by_row
  by_transfer t e g = rw (← same, e) g

  pub by_other : k ≡ None → r ≡ by_number s a key h → r ≡ by_row s a key h l
  unfolding by_row
  by_other e g = rw (← same, e) g

pub ruleset rows = (by_transfer, by_other, contraries)

-- ---- the call that eight numbers make
abbrev pub request_of : List ℕ → Request
request_of xs = record { parts = called_by xs; key = key_of (identifier_of (get_or xs 0 0)); args = args_of (called_by xs) xs }

pub request_is : (xs : List ℕ) (id : Identifier) (p : Parts) (a : Args) (key : ℕ)
    → id ≡ identifier_of (get_or xs 0 0) → p ≡ parts id → a ≡ args_by key xs → key ≡ key_of id → record { parts = p; key = key; args = a } ≡ request_of xs
request_is xs id p a key i e f g =
    let h : a ≡ args_of (parts id) xs = f ∙ (ap (λ (k : ℕ). args_by k xs) g ∙ read_by_key id xs) in
    rw (g, h, e, i)

-- by its key it reads the same
pub request_args : (xs : List ℕ) (q : Request) → q ≡ request_of xs → args_by q.key xs ≡ q.args
request_args xs q e = rw e (read_by_key (identifier_of (get_or xs 0 0)) xs)

pub ruleset lookups = (by_nobody, by_somebody, contraries)
