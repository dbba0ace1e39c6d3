-- A core that is pending has what its last granted start gave.
use Rattle.std.specs.Prelude.{◌≡◌, true, ℕ}
use Rattle.rules.specs.Choice.{yes_or_no}
use Rattle.cores.specs.Power.{is_pending}
use Rattle.cores.specs.Cores.{power}
use Rattle.cores.specs.declared.Power.{Power}
use Rattle.frames.specs.Frames.{first}
use Rattle.guarantees.specs.Runs.{Events, ran}
use Rattle.guarantees.specs.Fit.{first_fit}
use Rattle.guarantees.specs.Started.{LastStart, Pended, as_before, by_start, none_pending}
use Rattle.guarantees.proofs.Started.{pended}

-- A core that is pending after a run has the address and the context that its last granted start gave.
pub pending_started : (target : ℕ) (run : Events) → is_pending (power (ran first run).powers target) ≡ true
    → LastStart first run target (power (ran first run).powers target).start (power (ran first run).powers target).context
pending_started target run y = which (pended target run first first_fit y)
  where
    p : Power
    p = power (ran first run).powers target

    which : Pended first run target p → LastStart first run target p.start p.context
    which (by_start l) = l
    which (as_before u h) = absurd (yes_or_no _ y (rw h at (none_pending target)))
