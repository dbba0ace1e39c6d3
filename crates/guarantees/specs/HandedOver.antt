-- The hand-over that a core is still in after a run; and that a core which runs Secure or Realm is in one, to that world.
use Rattle.std.specs.Prelude.{◌≡◌, [], ◌∷◌, ◌++◌, ℕ, ◌≤◌, ltb}
use Rattle.std.proofs.Math.Path.{refl, ap}
use Rattle.std.proofs.Common.{sym, ◌∙◌, ⊎_elim, arith, ltb-true, ltb-false}
use Rattle.rules.specs.Sizes.{secure, normal, realm, most_cores}
use Rattle.rules.specs.Choice.{either}
use Rattle.cores.specs.Cores.{turn_out, first_turn}
use Rattle.cores.specs.declared.Turn.{Turn}
use Rattle.judgements.specs.Grounds.{Takes}
use Rattle.judgements.specs.declared.Deed.{Deed}
use Rattle.judgements.specs.declared.Deed.TheVariants.{Nothing, Move, Map, Unmap, Start, GoOff, HandOver, Finish}
use Rattle.calls.specs.Left as Left
use Rattle.parsing.specs.declared.Status.{Status}
use Rattle.parsing.specs.declared.Status.TheVariants.{Accepted}
use Rattle.parsing.specs.declared.Frame.{Frame}
use Rattle.parsing.specs.declared.Frame.TheVariants as Frame
use Rattle.frames.specs.Frames.{Machine, first}
use Rattle.showing.specs.declared.Reply.TheVariants.{Told}
use Rattle.guarantees.specs.Runs.{Event, Events, byte, next, reply, Taken, ran}
use Rattle.guarantees.specs.Statements.{running, HandsOver, GivesBack, SwitchesOff}
use Rattle.guarantees.specs.Started.{kind}

-- ---- what a reader takes to be a hand-over that is still open
-- An accepted hand-over of a core to a world: the line is a call on the core, it is accepted, in the machine that it meets it
-- asks for a hand-over to the world, and that world then runs there.
pub record Hands (m : Machine) (e : Event) (core to : ℕ) : Type 0 where
  pub is_call : e.0 ≡ Frame.Call core
  pub accepted : Taken (reply m e)
  pub asks : HandsOver m core e.1 to
  pub runs : running (next m e) core ≡ to

-- What would end it: an accepted finish, OFF or arrival on the core.
pub data Ends (m : Machine) (e : Event) (core : ℕ) : Type 0 where
  by_finish : e.0 ≡ Frame.Call core → Taken (reply m e) → GivesBack m core e.1 → Ends m e core
  by_off : e.0 ≡ Frame.Call core → Taken (reply m e) → SwitchesOff m core e.1 → Ends m e core
  by_arrival : e.0 ≡ Frame.Arrival core → reply m e ≡ Told Accepted → Ends m e core

-- No line of a run does.
unfoldable pub Unended : Machine → Events → ℕ → Type 0
Unended m [] core = Unit {0}
Unended m (e ∷ rest) core = (Ends m e core → ⊥) × Unended (next m e) rest core

-- The hand-over in a run: the line where it stands, accepted in the machine that the lines before it leave, and no end of it
-- among the lines after it.
pub record OpenHandOver (m : Machine) (run : Events) (core to : ℕ) : Type 0 where
  pub before : Events
  pub line : Event
  pub later : Events
  pub stands : run ≡ before ++ line ∷ later
  pub handed : Hands (ran m before) line core to
  pub since : Unended (next (ran m before) line) later core

-- ---- one line
-- a hand-over, a finish, OFF, or none of them
pub turn_cases : {P : Type 0} (d : Deed) → ((to : ℕ) → d ≡ HandOver to → P) → (d ≡ Finish → P) → (d ≡ GoOff → P)
    → (((to : ℕ) → d ≡ HandOver to → ⊥) → (d ≡ Finish → ⊥) → (d ≡ GoOff → ⊥) → P) → P
turn_cases Nothing h f o n = n (λ to e. omega (arith, ap kind e)) (λ e. omega (arith, ap kind e)) (λ e. omega (arith, ap kind e))
turn_cases (Move first count to) h f o n = n (λ to e. omega (arith, ap kind e)) (λ e. omega (arith, ap kind e)) (λ e. omega (arith, ap kind e))
turn_cases (Map m) h f o n = n (λ to e. omega (arith, ap kind e)) (λ e. omega (arith, ap kind e)) (λ e. omega (arith, ap kind e))
turn_cases (Unmap virt size) h f o n = n (λ to e. omega (arith, ap kind e)) (λ e. omega (arith, ap kind e)) (λ e. omega (arith, ap kind e))
turn_cases (Start core start context) h f o n = n (λ to e. omega (arith, ap kind e)) (λ e. omega (arith, ap kind e)) (λ e. omega (arith, ap kind e))
turn_cases GoOff h f o n = o refl
turn_cases (HandOver to) h f o n = h to refl
turn_cases Finish h f o n = f refl

-- what a line makes of what a core runs: a hand-over gives it; or it stays, and nothing ends there; or it is Normal
pub data Became (m : Machine) (e : Event) (core : ℕ) (o : Machine) : Type 0 where
  received : (to : ℕ) → Hands m e core to → Became m e core o
  kept : (Ends m e core → ⊥) → running o core ≡ running m core → Became m e core o
  home : running o core ≡ normal → Became m e core o

module _ (m : Machine) (e : Event) (core : ℕ) where
  -- only a call or an arrival ends one
  pub ends_by : Ends m e core → 0x20 ≤ byte e.0
  ends_by (by_finish is t a) = omega (arith, ap byte is)
  ends_by (by_off is t a) = omega (arith, ap byte is)
  ends_by (by_arrival is told) = omega (arith, ap byte is)

  -- and no refused frame does
  pub ends_accepted : (why : Status) → (why ≡ Accepted → ⊥) → reply m e ≡ Told why → Ends m e core → ⊥
  ends_accepted why n r (by_finish is t a) = t why r
  ends_accepted why n r (by_off is t a) = t why r
  ends_accepted why n r (by_arrival is told) = let q : Told why ≡ Told Accepted = sym r ∙ told in n cc

-- ---- over runs
-- a world that a core runs was handed the core in the run; or it ran there before, and nothing ended there
pub data Away (m : Machine) (run : Events) (core world : ℕ) : Type 0 where
  by_hand_over : OpenHandOver m run core world → Away m run core world
  as_before : Unended m run core → running m core ≡ world → Away m run core world

pub not_normal : (w : ℕ) → Takes w → w ≡ normal → ⊥
not_normal w t e = ⊎_elim (λ (y : w ≡ secure). omega arith) (λ (y : w ≡ realm). omega arith) t

-- No core runs Secure or Realm before the first line.
pub none_away : (core : ℕ) → Takes (running first core) → ⊥
none_away core t =
    either (ltb core most_cores)
    (λ h. not_normal _ t (ap (λ (q : Turn). q.world) (first_turn core (ltb-true _ _ h))))
    (λ h. let z : running first core ≡ 0 = sym (ap (λ (q : Turn). q.world) (turn_out first.turns core (ltb-false core most_cores h))) in
    ⊎_elim (λ (y : running first core ≡ secure). omega arith) (λ (y : running first core ≡ realm). omega arith) t)
