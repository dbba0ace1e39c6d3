-- What a granted transfer says of its run, and what it leaves: the owner of each page, and the mappings of every world.
use Rattle.std.proofs.Math.Path.{◌≡◌, refl}
use Rattle.std.proofs.Common.{ap, ◌∙◌, arith}
use Rattle.std.specs.Prelude.{Bool, not, List, ℕ, Err, None, Ok, Option, Result, Some}
use Rattle.std.proofs.Math.Bool.{true, false}
use Rattle.rules.specs.Choice as Choice
use Rattle.rules.specs.Choice.{pick, chosen, chosen_two}
use Rattle.rules.specs.Tests.{Test, Clear, sieve, sieved, sieved_two}
use Rattle.rules.specs.Reasons.{minus}
use Rattle.rules.specs.declared.Reason.{Reason}
use Rattle.rules.specs.declared.Reason.TheVariants.{Invalid, WrongOwner, Mapped}
use Rattle.pages.specs.Window.{acceptable, run_of}
use Rattle.pages.specs.Owners.{owned, given}
use Rattle.pages.specs.declared.Window.{Window}
use Rattle.mapping.specs.Mapping.{meets_run}
use Rattle.mapping.specs.Sound.{Sound}
use Rattle.mapping.proofs.Sound.{unmet_run, given_keeps}
use Rattle.ranges.specs.declared.Mapping.{Mapping}
use Rattle.transfers.specs.Transfer.{move_tests, transfer_verdict}

-- ---- what a granted verdict says

-- a run that may move: it lies in the window from its first page on, the giver owns all of it, and has mapped none of it
pub record Movable (w : Window) (o : List ℕ) (list : List Mapping) (from start count first : ℕ) : Type 0 where
  pub lies : run_of w start count ≡ Some first
  pub mine : owned o first count from ≡ true
  pub unmet : meets_run list start count ≡ false

-- where the outcome is a grant, no test held, and the outcome that was to stand is that grant
pub passes : (ts : List (Test Reason)) (v : Result ℕ Reason) (first : ℕ) → sieve Err ts v ≡ Ok first → Clear ts × (v ≡ Ok first)
passes ts v first =
    sieved (λ (r : Result ℕ Reason). r ≡ Ok first → Clear ts × (v ≡ Ok first)) Err ts v
    (λ r z. let y : ◌≡◌ {A = ℕ} 0 1 = cc in absurd (omega arith)) (λ c z. (c, z))

-- ---- the mappings after a granted transfer: no page that a world has mapped is another's.
-- The giver has mapped no page of the run, and what another world has mapped is its own, where the run is the giver's.
pub moved_keeps :
    (w : Window) (o : List ℕ) (lists : ℕ → List Mapping) (from start count first to : ℕ) →
    acceptable w ≡ true →
    Movable w o (lists from) from start count first →
    ((world : ℕ) → Sound w o world (lists world)) →
    (world : ℕ) → Sound w (given o first count to) world (lists world)
moved_keeps w o lists from start count first to ok m s world =
    given_keeps w o lists first count from to m.mine (unmet_run w (lists from) start count first ok m.lies m.unmet) s world

-- A count of one never meets -5.
pub one_page : (w : Window) (o : List ℕ) (list : List Mapping) (from start : ℕ) (r : Reason) → transfer_verdict w o list from start 1 ≡ Err r → minus r ≡ 5 → ⊥
unfolding transfer_verdict move_tests sieve pick
one_page w o list from start r e m = never (run_of w start 1) e
  where
    another : (q : Reason) → (minus q ≡ 5 → ⊥) → ◌≡◌ {A = Result ℕ Reason} (Err q) (Err r) → ⊥
    another q n e = let z : q ≡ r = cc in n (ap minus z ∙ m)

    never : (k : Option ℕ) → move_tests k o list from start 1 ≡ Err r → ⊥
    never None e = another Invalid (λ z. omega arith) e
    never (Some first) e =
        chosen (λ (v : Result ℕ Reason). v ≡ Err r → ⊥) (not (owned o first 1 from)) _ _ (λ y. another WrongOwner (λ z. omega arith))
        (λ n. chosen (λ (v : Result ℕ Reason). v ≡ Err r → ⊥) (meets_run list start 1) _ _ (λ y. another Mapped (λ z. omega arith)) (λ n e. let z : ◌≡◌ {A = ℕ} 0 1 = cc in absurd (omega arith))) e

-- ---- the giver's list is looked at last, and only for whether it forbids
-- one grants what the other refuses
abbrev pub Parted : Result ℕ Reason → Result ℕ Reason → Type 0
Parted v u = (first : ℕ) (r : Reason) → v ≡ Ok first → u ≡ Err r → ⊥

-- one verdict, where neither grants what the other refuses
abbrev pub OneVerdict : Result ℕ Reason → Result ℕ Reason → Type 0
OneVerdict v u = Parted v u → Parted u v → v ≡ u

module _ (w : Window) (o : List ℕ) (list other : List Mapping) (from start count : ℕ) where
  last_test : (first : ℕ) (a b : Bool) → OneVerdict (pick a (Err Mapped) (Ok first)) (pick b (Err Mapped) (Ok first))
  unfolding pick
  last_test first true true f g = refl
  last_test first true false f g = absurd (g first Mapped refl refl)
  last_test first false true f g = absurd (f first Mapped refl refl)
  last_test first false false f g = refl

  there_same : (k : Option ℕ) → OneVerdict (move_tests k o list from start count) (move_tests k o other from start count)
  unfolding move_tests sieve
  there_same None = λ f g. refl
  there_same (Some first) = chosen_two OneVerdict _ _ _ _ _ (λ e f g. refl) (λ e. last_test first _ _)

  -- Two lists of the giver's give a transfer one verdict, unless one of them allows it and the other forbids it.
  pub verdict_same : OneVerdict (transfer_verdict w o list from start count) (transfer_verdict w o other from start count)
  unfolding transfer_verdict
  verdict_same = sieved_two OneVerdict Err Err _ _ _ (λ r f g. refl) (λ c. there_same (run_of w start count))
