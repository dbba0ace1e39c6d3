-- A core that runs Secure or Realm is in a hand-over to that world.
use Rattle.std.specs.Prelude.{ℕ}
use Rattle.std.proofs.Math.Path.{subst}
use Rattle.std.proofs.Common.{sym}
use Rattle.judgements.specs.Grounds.{Takes}
use Rattle.frames.specs.Frames.{first}
use Rattle.guarantees.specs.Runs.{Events, ran}
use Rattle.guarantees.specs.Fit.{first_fit}
use Rattle.guarantees.specs.Statements.{running}
use Rattle.guarantees.specs.HandedOver.{Away, OpenHandOver, as_before, by_hand_over, none_away}
use Rattle.guarantees.proofs.HandedOver.{away}

-- A core that runs Secure or Realm after a run is in a hand-over to that world.
pub away_handed : (core : ℕ) (run : Events) → Takes (running (ran first run) core) → OpenHandOver first run core (running (ran first run) core)
away_handed core run k = which (away core run first first_fit k)
  where
    w : ℕ
    w = running (ran first run) core

    which : Away first run core w → OpenHandOver first run core w
    which (by_hand_over l) = l
    which (as_before u r) = absurd (none_away core (subst (λ (q : ℕ). Takes q) (sym r) k))
