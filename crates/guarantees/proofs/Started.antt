-- What the last granted start of a core gave it, in a run; and that a core that is pending after the run has just this.
use Rattle.std.specs.Prelude.{◌≡◌, true, [], ◌∷◌, ℕ}
use Rattle.std.proofs.Math.Path.{refl, sym, ap}
use Rattle.std.proofs.Common.{◌∙◌}
use Rattle.rules.specs.Choice.{yes_or_no}
use Rattle.cores.specs.Power.{power_of, pending, is_pending}
use Rattle.cores.specs.Cores.{power}
use Rattle.cores.specs.declared.Power.{Power}
use Rattle.frames.specs.Frames.{Machine}
use Rattle.guarantees.specs.Runs.{Events, next, ran}
use Rattle.guarantees.specs.Fit.{Fit, fit_next}
use Rattle.guarantees.specs.Started.{Became, Pended, Unstarted, as_before, became, by_start, gone, kept, started}

pub pended : (target : ℕ) (run : Events) (m : Machine) → Fit m → is_pending (power (ran m run).powers target) ≡ true → Pended m run target (power (ran m run).powers target)
unfolding ran Unstarted is_pending
pended target [] m fit y = as_before tt refl
pended target (e ∷ rest) m fit y = longer (became m fit e target) (pended target rest (next m e) (fit_next m e fit) y)
  where
    p : Power
    p = power (ran (next m e) rest).powers target

    longer : Became m e target (next m e) → Pended (next m e) rest target p → Pended m (e ∷ rest) target p
    longer b (by_start l) =
        by_start (record { before = e ∷ l.before; line = l.line; later = l.later; stands = ap (λ (q : Events). e ∷ q) l.stands; granted = l.granted; last = l.last })
    longer (started start context t w) (as_before u h) =
        let q : p ≡ power_of pending start context = sym h ∙ w in
        by_start (rw q (record { before = []; line = e; later = rest; stands = refl; granted = t; last = u }))
    longer (kept n w) (as_before u h) = as_before (n, u) (sym w ∙ h)
    longer (gone w) (as_before u h) = absurd (yes_or_no _ y (rw h at w))
