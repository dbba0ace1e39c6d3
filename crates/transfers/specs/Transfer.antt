-- Whether a run of pages may go from one world to another: the tests in the paper's order, and the run's first page where none of them holds.
use Rattle.std.specs.Prelude.{◌≡◌, not, List, [], ◌∷◌, ℕ, eqb, Err, None, Ok, Option, Result, Some}
use Rattle.rules.specs.declared.Reason.{Reason}
use Rattle.rules.specs.Tests.{refuses, sieve, contraries}
use Rattle.rules.specs.declared.Reason.TheVariants.{Invalid, WrongOwner, NoPages, Mapped}
use Rattle.pages.specs.Window.{run_of}
use Rattle.pages.specs.Owners.{owned}
use Rattle.pages.specs.declared.Window.{Window}
use Rattle.mapping.specs.Mapping.{meets_run}
use Rattle.ranges.specs.declared.Mapping.{Mapping}

-- where the run lies, all of its pages are the giver's, and none of them is in the giver's list
unfoldable pub move_tests : Option ℕ → List ℕ → List Mapping → ℕ → ℕ → ℕ → Result ℕ Reason
move_tests None o list from start count = Err Invalid
move_tests (Some first) o list from start count =
    sieve Err
    (refuses (not (owned o first count from)) WrongOwner
    ∷ refuses (meets_run list start count) Mapped
    ∷ [])
    (Ok first)

-- first that there is a page at all, then where the run lies, then whose its pages are, then whether one of them is mapped
unfoldable pub transfer_verdict : Window → List ℕ → List Mapping → ℕ → ℕ → ℕ → Result ℕ Reason
transfer_verdict w o list from start count =
    sieve Err (refuses (eqb count 0) NoPages ∷ []) (move_tests (run_of w start count) o list from start count)

-- ---- how the code's branches meet these
module _ (k l : Option ℕ) (o : List ℕ) (list : List Mapping) (from start count : ℕ) (r : Result ℕ Reason) (same : k ≡ l) where
  pub not_there : k ≡ None → r ≡ Err Invalid → r ≡ move_tests l o list from start count
  unfolding move_tests
  not_there e h = rw (← same, e) h

  pub there : (first : ℕ) → k ≡ Some first → r ≡ sieve Err (refuses (not (owned o first count from)) WrongOwner ∷ refuses (meets_run list start count) Mapped ∷ []) (Ok first) → r ≡ move_tests l o list from start count
  unfolding move_tests
  there first e h = rw (← same, e) h

pub ruleset moves = (not_there, there, contraries)
