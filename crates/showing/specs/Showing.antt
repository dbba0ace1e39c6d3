-- What is shown of a core after its call.
use Rattle.std.specs.Prelude.{◌≡◌, Bool, true, false, List, ℕ, ◌<◌}
use Rattle.std.proofs.Common.{arith}
use Rattle.rules.specs.Choice.{pick, picked, passed}
use Rattle.rules.specs.Sizes.{normal}
use Rattle.registers.specs.Registers.{saved, shown_of}
use Rattle.registers.specs.declared.Shown.{Shown}
use Rattle.cores.specs.Power.{is_on}
use Rattle.cores.specs.Cores.{power, turn}
use Rattle.cores.specs.declared.Power.{Power}
use Rattle.cores.specs.declared.Turn.{Turn}
use Rattle.showing.specs.declared.Reply.{Reply}
use Rattle.showing.specs.declared.Reply.TheVariants.{Called}

-- the core, the world that now runs there, and its x0 to x3; where the core went OFF, 255 and Normal's
unfoldable pub shown_on : ℕ → List ℕ → List ℕ → List ℕ → Reply
shown_on core r p t =
    pick (is_on (power p core)) (Called core (turn t core).world (shown_of r core (turn t core).world)) (Called core 255 (shown_of r core normal))

-- ---- how the code's branches meet it
module _ (core : ℕ) (r p t : List ℕ) (w : Power) (on : Bool) (is : w ≡ power p core) (said : on ≡ is_on w) where
  pub shows_on : (u : Turn) (x : Shown) → on ≡ true → u ≡ turn t core → x ≡ shown_of r core u.world → Called core u.world x ≡ shown_on core r p t
  unfolding shown_on
  shows_on u x e f h = picked _ _ _ _ (rw (← is, ← said) e) (rw (h, f))

  pub shows_off : (x : Shown) → on ≡ false → x ≡ shown_of r core normal → Called core 255 x ≡ shown_on core r p t
  unfolding shown_on
  shows_off x e h = passed _ _ _ _ (rw (← is, ← said) e) (rw h)

pub ruleset showings = (shows_on, shows_off)

-- ---- what is shown goes by the core's power, the world that runs there, and x0 to x3 of that world and of Normal
shown_same : (r q : List ℕ) (core world : ℕ) → ((j : ℕ) → j < 4 → saved r core world j ≡ saved q core world j) → shown_of r core world ≡ shown_of q core world
unfolding shown_of
shown_same r q core world f = rw (f 0 (omega arith), f 1 (omega arith), f 2 (omega arith), f 3 (omega arith))

pub shown_alike : (core : ℕ) (r q p p' t t' : List ℕ) → p ≡ p' → t ≡ t' → ((j : ℕ) → j < 4 → saved r core (turn t' core).world j ≡ saved q core (turn t' core).world j)
    → ((j : ℕ) → j < 4 → saved r core normal j ≡ saved q core normal j) → shown_on core r p t ≡ shown_on core q p' t'
unfolding shown_on
shown_alike core r q p p' t t' e f g h = rw (e, f, shown_same r q core (turn t' core).world g, shown_same r q core normal h)
