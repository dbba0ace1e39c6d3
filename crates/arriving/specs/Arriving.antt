-- Frame 21: what it does to the tables of the cores, and how it is answered.
use Rattle.std.specs.Prelude.{◌≡◌, Bool, List, ℕ, Err, Ok, Result, ⊤}
use Rattle.std.proofs.Common.{◌∙◌}
use Rattle.cores.specs.Power.{is_pending}
use Rattle.cores.specs.Cores.{power}
use Rattle.cores.specs.declared.Power.{Power}
use Rattle.calls.specs.Step.{CoreTables, arrived_in}
use Rattle.parsing.specs.declared.Status.{Status}
use Rattle.parsing.specs.declared.Status.TheVariants.{Accepted}
use Rattle.setup.specs.Frames.{core_ruled, core_verdict}
use Rattle.setup.specs.Laws.{core_refused, core_granted}

-- a pending core arrives
unfoldable pub arriving : List ℕ → CoreTables → ℕ → CoreTables × Status
arriving s w core = core_ruled (λ (why : Status). (w, why)) s core (is_pending (power w.powers core)) ((arrived_in w core).0, Accepted)

-- ---- how the code's branches meet it
pub asks_pending : (s p : List ℕ) (core : ℕ) (w : Power) (fits : Bool) (v : Result ⊤ Status) → w ≡ power p core → fits ≡ is_pending w → v ≡ core_verdict s core fits → v ≡ core_verdict s core (is_pending (power p core))
asks_pending s p core w fits v has said is = is ∙ rw (said, has)

module _ (s : List ℕ) (w : CoreTables) (core : ℕ) (v : Result ⊤ Status) (is : v ≡ core_verdict s core (is_pending (power w.powers core))) where
  pub arrival_refused : (why : Status) → v ≡ Err why → (w, why) ≡ arriving s w core
  unfolding arriving
  arrival_refused why e = core_refused (λ (why : Status). (w, why)) s core (is_pending (power w.powers core)) _ v is why e

  pub arrival_made : (w' : CoreTables) (came : Bool) → v ≡ (Ok tt) → (w', came) ≡ arrived_in w core → (w', Accepted) ≡ arriving s w core
  unfolding arriving
  arrival_made w' came e h = rw (← h) (core_granted (λ (why : Status). (w, why)) s core (is_pending (power w.powers core)) _ v is e)

pub ruleset arrivals = (arrival_refused, arrival_made)
