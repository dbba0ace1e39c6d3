-- The world that runs on a core, 255 where the core is not ON.
use Rattle.std.specs.Prelude.{◌≡◌, Bool, true, false, List, ℕ}
use Rattle.std.proofs.Math.Path.{refl}
use Rattle.rules.specs.Choice.{pick, picked, passed}
use Rattle.cores.specs.Power.{is_on}
use Rattle.cores.specs.Cores.{power, turn}
use Rattle.cores.specs.declared.Power.{Power}
use Rattle.cores.specs.declared.Turn.{Turn}
use Rattle.parsing.specs.declared.Frame.{Frame}
use Rattle.parsing.specs.declared.Frame.TheVariants as Frame

unfoldable pub running_on : List ℕ → List ℕ → ℕ → ℕ
running_on p t core = pick (is_on (power p core)) (turn t core).world 255

-- on the core of a call; for any other frame there is none
abbrev pub runs_after : Frame → List ℕ → List ℕ → ℕ
runs_after (Frame.Site base pages cores) p t = 255
runs_after (Frame.Entry first last kind number) p t = 255
runs_after (Frame.Name first count to) p t = 255
runs_after (Frame.Call core) p t = running_on p t core
runs_after (Frame.Arrival core) p t = 255
runs_after (Frame.Refused why) p t = 255

-- ---- how the code's branches meet these
module _ (core : ℕ) (p t : List ℕ) (w : Power) (on : Bool) (is : w ≡ power p core) (said : on ≡ is_on w) where
  pub runs_on : (u : Turn) → on ≡ true → u ≡ turn t core → u.world ≡ running_on p t core
  unfolding running_on
  runs_on u e f = picked _ _ _ _ (rw (← is, ← said) e) (rw f)

  pub runs_off : on ≡ false → 255 ≡ running_on p t core
  unfolding running_on
  runs_off e = passed _ _ _ _ (rw (← is, ← said) e) refl

pub runs_by : (f g : Frame) (p t : List ℕ) (r : ℕ) → f ≡ g → r ≡ runs_after g p t → r ≡ runs_after f p t
runs_by f g p t r e h = rw e h

pub ruleset runs = (runs_on, runs_off, runs_by)
