-- What a granted deed stands on, whatever the call: one law over every judgement, by which the theorems over runs go.
use Rattle.std.specs.Prelude.{◌≡◌, Bool, true, ◌||◌, ◌⊎◌, ℕ, ◌<◌, eqb, Ok, Result}
use Rattle.std.proofs.Common.{inl, inr}
use Rattle.std.proofs.Math.Bool.{false, not}
use mathlib.Core.List.{List, [], ◌∷◌}
use borrow.Author.Tests.{eqb-true, not-false}
use Rattle.mapping.specs.declared.Grant.TheVariants as Grant
use Rattle.mapping.specs.declared.Grant.{Grant}
use Rattle.rules.specs.Choice.{pick, either, yes_or_no}
use Rattle.rules.specs.declared.Reason.TheVariants as Reason
use Rattle.mapping.specs.Mapping.{map_verdict, has_exactly}
use Rattle.ranges.specs.declared.Mapping.{Mapping}
use Rattle.transfers.specs.Transfer.{transfer_verdict}
use Rattle.rules.specs.Sizes.{secure, normal, realm}
use Rattle.judgements.specs.declared.Answer.TheVariants as Answer
use Rattle.judgements.specs.Judge.{HandlerSight, one_of, takers, callers}

-- Secure or Realm
abbrev pub Takes : ℕ → Type 0
Takes world = (world ≡ secure) ⊎ (world ≡ realm)

-- a world that may call
abbrev pub Calls : ℕ → Type 0
Calls world = (world ≡ normal) ⊎ Takes world

-- a transfer's giver and taker: Normal and the caller, or the caller and Normal, with the giver's list
pub data Between (s : HandlerSight) : ℕ → ℕ → List Mapping → Type 0 where
  to_caller : Between s normal s.caller.world s.theirs
  to_normal : Between s s.caller.world normal s.own

-- a page transfer that is granted
pub record Moves (s : HandlerSight) (first count to : ℕ) : Type 0 where
  pub start : ℕ
  pub from : ℕ
  pub list : List Mapping
  pub between : Between s from to list
  pub some : 0 < count
  pub caller : Takes s.caller.world
  pub verdict : transfer_verdict s.caller.window s.owners list from start count ≡ Ok first

-- a mapping that is granted
pub record Maps (s : HandlerSight) (m : Mapping) : Type 0 where
  pub caller : Calls s.caller.world
  pub verdict : map_verdict s.own s.owners s.caller.window s.caller.world m ≡ (Ok Grant.Hold)

-- a mapping of this start and size that the caller holds
pub record Unmaps (s : HandlerSight) (virt size : ℕ) : Type 0 where
  pub caller : Calls s.caller.world
  pub holds : has_exactly s.own virt size ≡ true

-- ---- what the tests of the caller leave
pub is_world : (a b : ℕ) → not (eqb a b) ≡ false → a ≡ b
is_world a b e = eqb-true a b (not-false (eqb a b) e)

-- Secure or Realm, or Realm alone
pub is_taker : (w : ℕ) (forSecure : Bool) → not (one_of w (pick forSecure takers (realm ∷ []))) ≡ false → Takes w
unfolding one_of pick
is_taker w true e =
    either (eqb w secure) (λ y. inl (eqb-true w secure y))
    (λ n. either (eqb w realm) (λ y. inr (eqb-true w realm y))
    (λ m. let z : not (eqb w secure || (eqb w realm || false)) ≡ true = rw (n, m) in absurd (yes_or_no _ z e)))
is_taker w false e =
    either (eqb w realm) (λ y. inr (eqb-true w realm y)) (λ m. let z : not (eqb w realm || false) ≡ true = rw m in absurd (yes_or_no _ z e))

pub is_caller : (w : ℕ) → not (one_of w callers) ≡ false → Calls w
unfolding one_of
is_caller w e =
    either (eqb w normal) (λ y. inl (eqb-true w normal y))
    (λ n. either (eqb w secure) (λ y. inr (inl (eqb-true w secure y)))
    (λ m. either (eqb w realm) (λ y. inr (inr (eqb-true w realm y)))
    (λ k. let z : not (eqb w secure || (eqb w normal || (eqb w realm || false))) ≡ true = rw (m, n, k) in absurd (yes_or_no _ z e))))
