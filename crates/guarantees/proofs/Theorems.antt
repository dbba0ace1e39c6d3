-- The theorems: what is stated holds after any lines whatever, from any accepted set-up on, of whatever keeps the promise of the step.
use Rattle.std.specs.Prelude.{◌≡◌, refl, true, List, map, ◌⊎◌, ℕ, length}
use Rattle.std.proofs.Common.{ap, inl, inr}
use Rattle.identifiers.specs.Identifier.{admitted}
use Rattle.ledger.specs.Ledger.{handler}
use Rattle.rules.specs.Sizes.{normal}
use Rattle.judgements.specs.Judge.{called_by}
use Rattle.judgements.specs.Grounds.{Takes}
use Rattle.lines.specs.Input.{reading}
use Rattle.parsing.specs.declared.Frame.{Frame}
use Rattle.parsing.specs.declared.Frame.TheVariants as Frame
use Rattle.setup.specs.Table.{ready}
use Rattle.frames.specs.Frames.{Machine, first}
use Rattle.showing.specs.declared.Reply.{Reply}
use Rattle.showing.specs.declared.Reply.TheVariants.{Told}
use Rattle.guarantees.specs.Runs.{Event, Events, Taken, ran, replies, Allowed, Follows, by_following, follows_is, follows_ran}
use Rattle.guarantees.specs.Named.{Named, by_transfer, by_set_up, as_before, LastTransfer, Unmoved}
use Rattle.guarantees.specs.Fit.{first_fit, ran_fit}
use Rattle.guarantees.specs.Entries.{one_entry}
use Rattle.guarantees.specs.Statements.{Guaranteed, Heeded, owner_in, running, number, call}
use Rattle.parsing.specs.declared.Status.TheVariants.{Accepted}
use Rattle.guarantees.specs.Started.{LastStart}
use Rattle.guarantees.proofs.PendingStarted.{pending_started}
use Rattle.guarantees.proofs.Steps.{heeded}
use Rattle.guarantees.specs.HandedOver.{OpenHandOver}
use Rattle.guarantees.proofs.AwayHanded.{away_handed}
use Rattle.guarantees.proofs.GuaranteedAfter.{guaranteed_after}
use Rattle.guarantees.specs.Printed.{AllFit}
use Rattle.guarantees.proofs.Printed.{fits_first}
use Rattle.guarantees.specs.Theorems.{Dispatched, Step, event, none_names}

-- ---- from the first line on: any run that keeps the promise of the step, whatever its lines
module _ (run : Events) (m : Machine) (given : List Reply) (f : Follows first run m given) where
  -- All that is guaranteed of the machine and the answers holds.
  pub any_run : Guaranteed first run m given
  any_run = by_following (Guaranteed first run) f (guaranteed_after first first_fit run)

  -- Where a core runs Secure or Realm, the run has an accepted hand-over to that world on that core, and no accepted finish, OFF or arrival on it since.
  pub any_away : (core : ℕ) → Takes (running m core) → OpenHandOver first run core (running m core)
  any_away core k = rw (follows_is f).0 (away_handed core run (rw (follows_is f).0 at k))

  module _ (e : Event) (last : Machine) (answer : Reply) (step : Allowed m e last answer) where
    -- Whatever line comes next is heeded.
    pub any_line : Heeded m e last answer
    any_line =
        rw (ap (λ (o : Machine × Reply). o.0) step, ap (λ (o : Machine × Reply). o.1) step, (follows_is f).0) (heeded (ran first run) (ran_fit run) e)

    -- If it is a call that passes the test on bits 23 to 17, it reaches the handler of the one accepted entry that covers it, or nobody.
    pub any_call : (core : ℕ) → e.0 ≡ Frame.Call core → length e.1 ≡ 8 → Taken answer → admitted (called_by e.1) ≡ true → Dispatched run m core e.1
    any_call core is l t ok =
        record {
          says = handler m.ledger (called_by e.1).fast (called_by e.1).owner;
          one = rw (follows_is f).0 (one_entry run (called_by e.1).fast (called_by e.1).owner);
          judged = (any_line.call core is l t).dispatched ok;
        }

    -- A core that arrives finds what its last granted start gave: the address in ninth place, and the context in x0.
    pub any_arrival : (core : ℕ) → e.0 ≡ Frame.Arrival core → answer ≡ Told Accepted → LastStart first run core (number last core normal 8) (number last core normal 0)
    any_arrival core is told =
        let a = any_line.arrival core is told in
        rw (a.start, a.context, (follows_is f).0) (pending_started core run (rw (follows_is f).0 at a.was_pending))

-- any lines with an accepted 11 among them, then a run of steps, and what keeps the promise of the step all the way
module _ (lines : Events) (m : Machine) (told : List Reply) (set_up : Follows first lines m told) (accepted : ready m.setup ≡ true)
    (steps : List Step) (last : Machine) (given : List Reply) (run : Follows m (map event steps) last given) where
  -- After any run of calls and arrivals, refused ones among them, all that is guaranteed holds.
  pub any_steps : Guaranteed m (map event steps) last given
  any_steps = by_following (Guaranteed m (map event steps)) run (rw (follows_is set_up).0 (guaranteed_after (ran first lines) (ran_fit lines) (map event steps)))

  -- The owner of a page is named by the last granted transfer of the page; if there was none, it is the owner whom the set-up left, and `any_run` says who that is.
  pub owner_since : (page : ℕ) → LastTransfer m (map event steps) page (owner_in last page) ⊎ (Unmoved m (map event steps) page × (owner_in last page ≡ owner_in m page))
  owner_since page = which _ (any_steps.owner_named page)
    where
      which : (to : ℕ) → Named m (map event steps) page to → LastTransfer m (map event steps) page to ⊎ (Unmoved m (map event steps) page × (to ≡ owner_in m page))
      which to (by_transfer l) = inl l
      which to (by_set_up u n) = absurd (none_names steps n.before n.line n.later n.named.lowest n.named.count to n.stands n.named.is_name)
      which to (as_before u n) = inr (u, refl)

-- ---- lines and bytes
-- So it is after any lines, as the definitions answer them.
pub any_lines : (lines : List (List ℕ)) → let run = map reading lines in Guaranteed first run (ran first run) (replies first run)
any_lines lines = any_run (map reading lines) _ _ (follows_ran first (map reading lines))

-- Nothing is cut: whatever the lines, every core and world that is shown is below 256, and every number below 2^64.
pub nothing_cut : (lines : List (List ℕ)) → AllFit (replies first (map reading lines))
nothing_cut = fits_first
