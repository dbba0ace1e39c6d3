-- One core's power, and its turn: which world runs there. Records by value, with no trace of the tables.
use Rattle.std.specs.Prelude.{◌≡◌, Bool, true, false, ◌||◌, ℕ, eqb}
use Rattle.rules.specs.Sizes.{normal}
use Rattle.rules.specs.Choice.{pick, pick_yes, pick_no, neither}
use Rattle.cores.specs.declared.Power.{Power}
use Rattle.cores.specs.declared.Turn.{Turn}
use Rattle.cores.specs.declared.Arriving.{Arriving}

-- the states of a core
abbrev pub off : ℕ
off = 0

abbrev pub pending : ℕ
pending = 1

abbrev pub on : ℕ
on = 2

abbrev pub power_of : ℕ → ℕ → ℕ → Power
power_of state start context = record { state = state; start = start; context = context }

abbrev pub turn_of : ℕ → Turn
turn_of world = record { world = world }

-- ---- power
unfoldable pub is_on : Power → Bool
is_on p = eqb p.state on

unfoldable pub is_pending : Power → Bool
is_pending p = eqb p.state pending

-- the same start address and context, in another state
abbrev pub put : Power → ℕ → Power
put p state = power_of state p.start p.context

-- a core that is neither ON nor pending becomes pending, with the call's start address and context
unfoldable pub started : Power → ℕ → ℕ → Power
started p start context = pick (is_on p || is_pending p) p (power_of pending start context)

-- a core that is ON goes OFF
unfoldable pub gone_off : Power → Power
gone_off p = pick (is_on p) (put p off) p

-- a pending core comes ON
unfoldable pub arrived : Power → Power
arrived p = pick (is_pending p) (put p on) p

-- whether a core that arrives was pending, and its power then
abbrev pub arrival_of : Power → Arriving
arrival_of p = record { came = is_pending p; power = arrived p }

-- ---- turn
-- a hand-over: the receiver runs, until the finish
abbrev pub handed : Turn → ℕ → Turn
handed r to = turn_of to

-- a finish: Normal runs
abbrev pub finished : Turn → Turn
finished r = turn_of normal

-- an arrival: Normal runs, as after a finish
abbrev pub entered : Turn → Turn
entered r = finished r

-- ---- the steps by their outcomes
module _ (p : Power) where
  pub started_off : (start context : ℕ) → is_on p ≡ false → is_pending p ≡ false → started p start context ≡ power_of pending start context
  unfolding started
  started_off start context a b = pick_no _ _ _ (neither _ _ a b)

  pub gone_off_on : is_on p ≡ true → gone_off p ≡ put p off
  unfolding gone_off
  gone_off_on e = pick_yes _ _ _ e

  pub arrived_pending : is_pending p ≡ true → arrived p ≡ put p on
  unfolding arrived
  arrived_pending e = pick_yes _ _ _ e
