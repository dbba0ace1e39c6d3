-- The theorems: two runs that differ in Realm's calls on its own mappings are the same to everybody else, of whatever keeps the promise of the step.
use Rattle.std.specs.Prelude.{◌≡◌, true, ◌⊎◌, ℕ}
use Rattle.std.proofs.Math.Path.{refl}
use Rattle.std.proofs.Common.{ap, ◌∙◌, ⊎_elim, arith}
use mathlib.Core.List.{List, [], ◌∷◌, ◌++◌, map}
use Rattle.cores.specs.Power.{is_on}
use Rattle.cores.specs.Cores.{power, turn}
use Rattle.judgements.specs.Asked.{Finishes, by_secure, by_realm}
use Rattle.lines.specs.Input.{reading}
use Rattle.parsing.specs.declared.Frame.TheVariants as Frame
use Rattle.frames.specs.Frames.{Machine}
use Rattle.showing.specs.declared.Reply.{Reply}
use Rattle.showing.specs.declared.Reply.TheVariants.{Told, Called}
use Rattle.guarantees.specs.Runs.{Event, next, reply, Taken}
use Rattle.guarantees.specs.Fit.{Fit}
use Rattle.guarantees.proofs.Steps.{heeded}
use Rattle.guarantees.specs.Statements.{running, number, HeededCall}
use Rattle.unseen.specs.Statements.{Alike, GivesPages, Woven, one_run, other_run, Eight, Extended, without, with_all}
use Rattle.unseen.specs.Statements.Woven.{common, other}
use Rattle.unseen.specs.Statements.Extended.{shared, added}

-- ---- one line
pub record Meets (m n : Machine) : Type 0 where
  pub alike : Alike m n
  pub one_fits : Fit m
  pub other_fits : Fit n

-- ---- the premise by what is printed: a gift of Realm's that gets one answer has one x0
abbrev pub x0_of : Reply → ℕ
x0_of (Told why) = 0
x0_of (Called core world x) = x.x0

no_finish : {h k w : ℕ} → Finishes h k w → (k ≡ 0xC40001B1) ⊎ (k ≡ 0xC2000011) → ⊥
no_finish by_secure = ⊎_elim (λ e. omega arith) (λ e. omega arith)
no_finish by_realm = ⊎_elim (λ e. omega arith) (λ e. omega arith)

module _ (m : Machine) (fit : Fit m) (e : Event) (eight : Eight e) (core : ℕ) (is : e.0 ≡ Frame.Call core) (t : Taken (reply m e)) (by : running m core ≡ 3) (gives : GivesPages e.1) where
  told : HeededCall m core e.1 (next m e) (reply m e)
  told = (heeded m fit e).call core is (eight core is) t

  still_on : is_on (power (next m e).powers core) ≡ true
  still_on = rw (told.power_stays core (λ a z c. omega (arith, (told.start_ready a z).0)) (λ o c. omega (arith, o.0))) told.was_on

  still_runs : running (next m e) core ≡ 3
  still_runs = ap (λ (q : List ℕ). (turn q core).world) (told.same_runs (λ to h. omega (arith, h.0)) (λ f. no_finish f.so gives)) ∙ by

  pub shows_x0 : x0_of (reply m e) ≡ number (next m e) core 3 0
  shows_x0 = ap x0_of (told.shown_if_on still_on) ∙ rw still_runs

-- ---- in the request's own words
unfoldable pub woven : List Extended → List Woven
woven [] = []
woven (shared line ∷ rest) = common (reading line) ∷ woven rest
woven (added line ∷ rest) = other (reading line) ∷ woven rest

pub woven_parts : (before later : List Extended) → woven (before ++ later) ≡ woven before ++ woven later
unfolding woven
woven_parts [] later = refl
woven_parts (shared line ∷ before) later = rw (woven_parts before later)
woven_parts (added line ∷ before) later = rw (woven_parts before later)

pub one_is : (items : List Extended) → one_run (woven items) ≡ map reading (without items)
unfolding woven one_run without
one_is [] = refl
one_is (shared line ∷ rest) = rw (one_is rest)
one_is (added line ∷ rest) = one_is rest

pub other_is : (items : List Extended) → other_run (woven items) ≡ map reading (with_all items)
unfolding woven other_run with_all
other_is [] = refl
other_is (shared line ∷ rest) = rw (other_is rest)
other_is (added line ∷ rest) = rw (other_is rest)
