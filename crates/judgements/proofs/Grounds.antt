-- What a granted deed stands on, whatever the call: one law over every judgement, by which the theorems over runs go.
use Rattle.std.specs.Prelude.{◌≡◌, refl, Bool, true, ℕ, ◌<◌, Err, None, Ok, Option, Result, Some}
use Rattle.std.proofs.Common.{sym, subst, inl, inr, arith}
use Rattle.std.proofs.Math.Bool.{false, not}
use mathlib.Core.List.{List}
use borrow.Author.Tests.{leb-false, not-false}
use Rattle.mapping.specs.Leads.{To}
use Rattle.mapping.specs.declared.Lead.{Lead}
use Rattle.mapping.specs.declared.Grant.TheVariants as Grant
use Rattle.mapping.specs.declared.Grant.{Grant}
use Rattle.rules.specs.Choice.{chosen}
use Rattle.rules.specs.Tests.{Test, sieved, Clear}
use Rattle.rules.specs.declared.Reason.{Reason}
use Rattle.rules.specs.declared.Reason.TheVariants as Reason
use Rattle.cores.specs.Power.{is_on, is_pending}
use Rattle.cores.specs.Cores.{power}
use Rattle.ranges.specs.declared.Mapping.{Mapping}
use Rattle.transfers.specs.Transfer.{transfer_verdict}
use Rattle.transfers.proofs.Granted.{transfer_granted}
use Rattle.rules.specs.Sizes.{secure, normal, realm}
use Rattle.judgements.specs.declared.Answer.{Answer}
use Rattle.judgements.specs.declared.Answer.TheVariants as Answer
use Rattle.judgements.specs.declared.Deed.{Deed}
use Rattle.judgements.specs.declared.Deed.TheVariants.{Nothing, Move, Map, Unmap, Start, GoOff, HandOver, Finish}
use Rattle.judgements.specs.declared.Judged.{Judged}
use Rattle.judgements.specs.declared.Args.{Args}
use Rattle.judgements.specs.declared.Transfer.{Transfer}
use Rattle.judgements.specs.Judge.{HandlerSight, Sight, denied, granted, tested, one_of, good_start, wanted, affirmed, featuring, architecture, starting, telling_state, going_off, versioning, power_featuring, may_transfer, row_of, moving, transferring, owning, mapping, unmapping, leading, board, handing, finishing, handing_to_realm, realm_call, standard, trusted, by_number, by_row, found, judged_by, judged}
use Rattle.judgements.specs.Grounds.{Between, Calls, Maps, Moves, Takes, Unmaps, is_caller, is_taker, is_world, to_caller, to_normal}

-- a core of the board that is OFF, and an address to start it at
pub record Starts (s : HandlerSight) (core start : ℕ) : Type 0 where
  pub caller : s.caller.world ≡ normal
  pub exists : core < s.caller.cores
  pub good : good_start s.caller.window s.owners start ≡ true
  pub not_on : is_on (power s.powers core) ≡ false
  pub not_pending : is_pending (power s.powers core) ≡ false

-- what each deed stands on
abbrev pub Grounds : HandlerSight → Deed → Type 0
Grounds s Nothing = Unit {0}
Grounds s (Move first count to) = Moves s first count to
Grounds s (Map m) = Maps s m
Grounds s (Unmap virt size) = Unmaps s virt size
Grounds s (Start core start context) = Starts s core start
Grounds s GoOff = s.caller.world ≡ normal
Grounds s (HandOver to) = (s.caller.world ≡ normal) × Takes to
Grounds s Finish = Takes s.caller.world

-- a refusal does nothing, and what is done has its grounds
pub record Grounded (s : HandlerSight) (j : Judged) : Type 0 where
  pub quiet : (r : Reason) → j.answer ≡ Answer.No r → j.deed ≡ Nothing
  pub stands : Grounds s j.deed

-- ---- the plain outcomes
module _ (s : HandlerSight) where
  refusing : (r : Reason) → Grounded s (denied r)
  refusing r = record { quiet = λ q e. refl; stands = tt }

  answering : (a : Answer) → Grounded s (granted a Nothing)
  answering a = record { quiet = λ q e. refl; stands = tt }

  doing : (d : Deed) → Grounds s d → Grounded s (granted Answer.Done d)
  doing d g = record { quiet = λ q (e : Answer.Done ≡ Answer.No q). cc; stands = g }

  passing : (d : Deed) → Grounds s d → Grounded s (granted Answer.Silent d)
  passing d g = record { quiet = λ q (e : Answer.Silent ≡ Answer.No q). cc; stands = g }

  -- tests before a judgement: it is grounded where none of them holds
  testing : (ts : List (Test Reason)) (j : Judged) → (Clear ts → Grounded s j) → Grounded s (tested ts j)
  testing ts j g = sieved (Grounded s) denied ts j refusing g

-- ---- each call
module _ (s : HandlerSight) (a : Args) where
  affirming : (b : Bool) → Grounded s (affirmed b)
  unfolding affirmed
  affirming b = chosen (Grounded s) b _ _ (λ e. answering s Answer.Done) (λ e. refusing s Reason.Unserved)

  architectures : (key : ℕ) → Grounded s (architecture a key)
  unfolding architecture featuring
  architectures key =
      chosen (Grounded s) _ _ _ (λ e. answering s Answer.Version)
      (λ e. chosen (Grounded s) _ _ _ (λ f. affirming _) (λ f. refusing s Reason.Unserved))

  starts : Grounded s (starting s.caller s.powers s.owners a)
  unfolding starting Clear
  starts =
      testing s _ _ (λ c. doing s (Start a.x1 a.x2 a.x3) (record {
        caller = is_world s.caller.world normal c.0;
        exists = leb-false s.caller.cores a.x1 c.1.0;
        good = not-false _ c.1.1.0;
        not_on = c.1.1.1.0;
        not_pending = c.1.1.1.1.0;
      }))

  states : Grounded s (telling_state s.caller s.powers a)
  unfolding telling_state
  states = testing s _ _ (λ c. answering s _)

  goes_off : Grounded s (going_off s.caller)
  unfolding going_off Clear
  goes_off = testing s _ _ (λ c. passing s GoOff (is_world s.caller.world normal c.0))

  versions : Grounded s (versioning s.caller)
  unfolding versioning
  versions = testing s _ _ (λ c. answering s _)

  powers : Grounded s (power_featuring s.caller a)
  unfolding power_featuring
  powers = testing s _ _ (λ c. affirming _)

  transfers : (v : Result ℕ Reason) (count to : ℕ) → ((first : ℕ) → v ≡ Ok first → Moves s first count to) → Grounded s (moving v count to)
  unfolding moving
  transfers (Ok first) count to g = doing s (Move first count to) (g first refl)
  transfers (Err r) count to g = refusing s r

  -- a transfer, whichever way
  any_transfer : (t : Transfer) → Grounded s (transferring t s.caller s.owners s.own s.theirs a)
  unfolding transferring Clear
  any_transfer t = testing s _ _ (λ c. chosen (Grounded s) t.takes _ _ (λ e. way to_caller c.0) (λ e. way to_normal c.0))
    where
      way : {from to : ℕ} {list : List Mapping} → Between s from to list → not (one_of s.caller.world (may_transfer t)) ≡ false
          → Grounded s (moving (transfer_verdict s.caller.window s.owners list from a.x1 t.count) t.count to)
      way {from} {to} {list} b may =
          transfers _ _ _ (λ first v.
          let some : t.count ≡ 0 → ⊥ = (transfer_granted _ _ _ _ _ _ first v).1 in
          record { start = a.x1; from = from; list = list; between = b; some = omega arith; caller = is_taker s.caller.world t.both may; verdict = v })

  questions : (o : List ℕ) (p : Option ℕ) (world : ℕ) → Grounded s (owning o p world)
  unfolding owning
  questions o (Some page) world = answering s _
  questions o None world = refusing s Reason.Invalid

  leads : (l : Option Lead) → Grounded s (leading l)
  unfolding leading
  leads (Some d) = answering s _
  leads None = refusing s Reason.Nowhere

  mappings : (v : Result Grant Reason) (m : Mapping) → (v ≡ (Ok Grant.Hold) → Maps s m) → Grounded s (mapping v m)
  unfolding mapping
  mappings (Ok Grant.Hold) m g = doing s (Map m) (g refl)
  mappings (Ok Grant.Nothing) m g = answering s _
  mappings (Err r) m g = refusing s r

  hands : (to : ℕ) → Takes to → Grounded s (handing to s.caller)
  unfolding handing Clear
  hands to t = testing s _ _ (λ c. passing s (HandOver to) (is_world s.caller.world normal c.0, t))

  finishes : (from : ℕ) → Takes from → Grounded s (finishing from s.caller)
  unfolding finishing Clear
  finishes from t = testing s _ _ (λ c. passing s Finish (subst (λ (w : ℕ). Takes w) (sym (is_world s.caller.world from c.0)) t))

  range : (key : ℕ) → Grounded s (handing_to_realm s.caller key)
  unfolding handing_to_realm
  range key = testing s _ _ (λ c. hands realm (inr refl))

  trust : (key : ℕ) → Grounded s (trusted s.caller key)
  unfolding trusted
  trust key = chosen (Grounded s) _ _ _ (λ e. finishes secure (inl refl)) (λ e. hands secure (inl refl))

  realm_calls : (key : ℕ) → Grounded s (realm_call s.caller key)
  unfolding realm_call
  realm_calls key =
      chosen (Grounded s) _ _ _ (λ e. finishes realm (inr refl)) (λ e. range key)

  standards : (key : ℕ) → Grounded s (standard s.caller s.powers s.owners a key)
  unfolding standard
  standards key =
      chosen (Grounded s) _ _ _ (λ e. versions)
      (λ e. chosen (Grounded s) _ _ _ (λ e. goes_off)
      (λ e. chosen (Grounded s) _ _ _ (λ e. starts)
      (λ e. chosen (Grounded s) _ _ _ (λ e. starts)
      (λ e. chosen (Grounded s) _ _ _ (λ e. states)
      (λ e. chosen (Grounded s) _ _ _ (λ e. states)
      (λ e. chosen (Grounded s) _ _ _ (λ e. powers)
      (λ e. realm_calls key)))))))

  -- ---- the calls that any world makes, and so the whole judgement
  module _ (may : Calls s.caller.world) where
    unmappings : Grounded s (unmapping s.own a)
    unfolding unmapping Clear
    unmappings = testing s _ _ (λ c. doing s (Unmap a.x1 a.x2) (record { caller = may; holds = not-false _ c.0 }))

    boards : (key : ℕ) → Grounded s (board s a key)
    unfolding board
    boards key =
        chosen (Grounded s) _ _ _ (λ e. questions _ _ _)
        (λ e. chosen (Grounded s) _ _ _ (λ e. mappings _ (wanted a) (λ v. record { caller = may; verdict = v }))
        (λ e. chosen (Grounded s) _ _ _ (λ e. unmappings)
        (λ e. chosen (Grounded s) _ _ _ (λ e. leads _)
        (λ e. chosen (Grounded s) _ _ _ (λ e. answering s _)
        (λ e. refusing s Reason.Unserved)))))

    numbers : (key h : ℕ) → Grounded s (by_number s a key h)
    unfolding by_number
    numbers key h =
        chosen (Grounded s) _ _ _ (λ e. architectures key)
        (λ e. chosen (Grounded s) _ _ _ (λ e. boards key)
        (λ e. chosen (Grounded s) _ _ _ (λ e. standards key)
        (λ e. chosen (Grounded s) _ _ _ (λ e. trust key)
        (λ e. refusing s Reason.Unserved))))

    rows : (key h : ℕ) (r : Option Transfer) → Grounded s (by_row s a key h r)
    unfolding by_row
    rows key h (Some t) = any_transfer t
    rows key h None = numbers key h

    lookups : (key : ℕ) (l : Option ℕ) → Grounded s (found s a key l)
    unfolding found
    lookups key None = refusing s Reason.Unserved
    lookups key (Some h) = rows key h (row_of a h key)

-- every judgement is grounded
pub grounded : (s : Sight) (xs : List ℕ) → Grounded s.inner (judged s xs)
unfolding judged judged_by Clear
grounded s xs = testing s.inner _ _ (λ c. lookups s.inner _ (is_caller s.inner.caller.world c.0) _ _)
