-- The theorems: two runs that differ in Realm's calls on its own mappings are the same to everybody else, of whatever keeps the promise of the step.
use Rattle.std.specs.Prelude.{◌≡◌, ◌⊎◌, ℕ}
use Rattle.std.proofs.Math.Path.{refl}
use Rattle.std.proofs.Common.{sym, ap, subst, ◌∙◌, inr, ⊎_elim, arith}
use mathlib.Core.List.{List, [], ◌∷◌, ◌++◌, map}
use Rattle.cores.specs.Cores.{turn}
use Rattle.mapping.specs.Lists.{held_same}
use Rattle.judgements.specs.Asked.{by_realm}
use Rattle.lines.specs.Input.{reading}
use Rattle.parsing.specs.declared.Frame.TheVariants as Frame
use Rattle.frames.specs.Frames.{Machine, first}
use Rattle.showing.specs.declared.Reply.{Reply}
use Rattle.guarantees.specs.Runs.{Event, Events, next, reply, ran, Allowed, Follows, follows_is}
use Rattle.guarantees.specs.Fit.{Fit, fit_next, ran_fit}
use Rattle.guarantees.specs.Statements.{mapped, running, number}
use Rattle.guarantees.specs.Theorems.{read_small}
use Rattle.unseen.specs.Statements.{Alike, OwnCall, Evenly, AnsweredAlike, Woven, Fair, one_run, other_run, Eight, Extended, without, with_all, Premise, LeftAlike}
use Rattle.unseen.specs.Statements.Woven.{common, one, other}
use Rattle.unseen.specs.Statements.Extended.{shared, added}
use Rattle.unseen.specs.Steps.{alike_same, alike_sym, alike_trans}
use Rattle.unseen.proofs.Steps.{own_kept, line_kept}
use Rattle.unseen.specs.Theorems.{Meets, one_is, other_is, shows_x0, woven, woven_parts, x0_of}

module _ (m n : Machine) (e : Event) (a : Meets m n) where
  meets_common : Evenly m n e → Meets (next m e) (next n e)
  meets_common h =
      record { alike = (line_kept m n e a.alike a.one_fits a.other_fits h).0; one_fits = fit_next m e a.one_fits; other_fits = fit_next n e a.other_fits }

  meets_one : OwnCall m e → Meets (next m e) n
  meets_one h = record { alike = alike_trans (own_kept m e a.one_fits h) a.alike; one_fits = fit_next m e a.one_fits; other_fits = a.other_fits }

  meets_other : OwnCall n e → Meets m (next n e)
  meets_other h = record { alike = alike_trans a.alike (alike_sym (own_kept n e a.other_fits h)); one_fits = a.one_fits; other_fits = fit_next n e a.other_fits }

-- ---- any lines: the two machines meet after any part of them, and what is left is fair
met : (before later : List Woven) (m n : Machine) → Meets m n → Fair m n (before ++ later)
    → Meets (ran m (one_run before)) (ran n (other_run before)) × Fair (ran m (one_run before)) (ran n (other_run before)) later
unfolding Fair one_run other_run ran
met [] later m n a f = (a, f)
met (common e ∷ before) later m n a f = met before later (next m e) (next n e) (meets_common m n e a f.0) f.1
met (one e ∷ before) later m n a f = met before later (next m e) n (meets_one m n e a f.0) f.1
met (other e ∷ before) later m n a f = met before later m (next n e) (meets_other m n e a f.0) f.1

answered_even : (m n : Machine) (e : Event) → Meets m n → Eight e → AnsweredAlike m n e → Evenly m n e
answered_even m n e a eight h core is t by gives =
    let same : reply m e ≡ reply n e = h core is (inr gives) in
    let x : number (next m e) core 3 0 ≡ number (next n e) core 3 0 =
    sym (shows_x0 m a.one_fits e eight core is t by gives) ∙ ap x0_of same
    ∙ shows_x0 n a.other_fits e eight core is (λ why k. t why (same ∙ k)) (ap (λ (q : List ℕ). (turn q core).world) (sym a.alike.turns) ∙ by) gives in
    (λ z. sym x ∙ z, λ z. x ∙ z)

-- ---- from any machine that a run reaches: two runs over fair lines, wherever they stand
module _ (lines : Events) (s : Machine) (said : List Reply) (start : Follows first lines s said) where
  meets_start : Meets s s
  meets_start = let f : Fit s = subst Fit (sym (follows_is start).0) (ran_fit lines) in record { alike = alike_same s; one_fits = f; other_fits = f }

  module _ (both : List Woven) (fair : Fair s s both) (before later : List Woven) (stands : both ≡ before ++ later)
      (m n : Machine) (given given' : List Reply) (goes : Follows s (one_run before) m given) (goes' : Follows s (other_run before) n given') where
    here : Meets m n × Fair m n later
    here = rw ((follows_is goes).0, (follows_is goes').0) (met before later s s meets_start (subst (λ (l : List Woven). Fair s s l) stands fair))

    -- After every line the two machines differ in Realm's numbers and Realm's mappings alone.
    pub any_place : Alike m n
    any_place = here.0.alike

    -- Every other world has the same list.
    pub any_mapped : (world : ℕ) → (world ≡ 3 → ⊥) → mapped m world ≡ mapped n world
    any_mapped world d = held_same world m.lists n.lists (λ i. any_place.places world i d)

    module _ (e : Event) (rest : List Woven) (is : later ≡ common e ∷ rest) (after after' : Machine) (a a' : Reply) (step : Allowed m e after a) (step' : Allowed n e after' a') where
      kept : Alike (next m e) (next n e) × ((OwnCall m e → ⊥) → Eight e → reply m e ≡ reply n e)
      unfolding Fair
      kept = line_kept m n e here.0.alike here.0.one_fits here.0.other_fits (subst (λ (l : List Woven). Fair m n l) is here.1).0

      -- So it is after a common line,
      pub any_after : Alike after after'
      any_after = rw (ap (λ (q : Machine × Reply). q.0) step, ap (λ (q : Machine × Reply). q.0) step') kept.0

      -- and the line gets one answer in both, unless it is a call of Realm's to map, to unmap or to ask where an address leads.
      pub any_answer : (OwnCall m e → ⊥) → Eight e → a ≡ a'
      any_answer o eight = ap (λ (q : Machine × Reply). q.1) step ∙ kept.1 o eight ∙ sym (ap (λ (q : Machine × Reply). q.1) step')

premise_fair : (items : List Extended) (m n : Machine) → Meets m n → Premise m n items → Fair m n (woven items)
unfolding woven Premise Fair
premise_fair [] m n a q = tt
premise_fair (shared line ∷ rest) m n a q =
    let e = reading line in
    let even = answered_even m n e a (read_small line).eight q.0 in
    (even, premise_fair rest (next m e) (next n e) (meets_common m n e a even) q.1)
premise_fair (added line ∷ rest) m n a q = (q.0, premise_fair rest m (next n (reading line)) (meets_other m n (reading line) a q.0) q.1)

-- Two runs alike but for added calls in the second: wherever a common line stands, if Normal or Secure makes a call there,
-- the call gets the same answer in both, and leaves the same registers, owners and core states.
module _ (lines : Events) (s : Machine) (said : List Reply) (start : Follows first lines s said)
    (items : List Extended) (premise : Premise s s items) (before later : List Extended) (line : List ℕ) (stands : items ≡ before ++ shared line ∷ later)
    (m n : Machine) (given given' : List Reply) (goes : Follows s (map reading (without before)) m given) (goes' : Follows s (map reading (with_all before)) n given')
    (after after' : Machine) (a a' : Reply) (step : Allowed m (reading line) after a) (step' : Allowed n (reading line) after' a') where
  pub as_requested : (core : ℕ) → (reading line).0 ≡ Frame.Call core → (running m core ≡ 1) ⊎ (running m core ≡ 2) → (a ≡ a') × LeftAlike after after'
  unfolding woven
  as_requested core is by = (
    any_answer lines s said start (woven items) fair (woven before) (common (reading line) ∷ woven later) parts m n given given' one_goes other_goes
        (reading line) (woven later) refl after after' a a' step step' not_own (read_small line).eight,
    record {
      owners = left.owners;
      powers = left.powers;
      turns = left.turns;
      normal = λ core j. left.numbers core 2 j (λ e. omega arith);
      secure = λ core j. left.numbers core 1 j (λ e. omega arith);
    },
  )
    where
      fair : Fair s s (woven items)
      fair = premise_fair items s s (meets_start lines s said start) premise

      parts : woven items ≡ woven before ++ common (reading line) ∷ woven later
      parts = ap woven stands ∙ woven_parts before (shared line ∷ later)

      one_goes : Follows s (one_run (woven before)) m given
      one_goes = rw (one_is before) goes

      other_goes : Follows s (other_run (woven before)) n given'
      other_goes = rw (other_is before) goes'

      left : Alike after after'
      left =
          any_after lines s said start (woven items) fair (woven before) (common (reading line) ∷ woven later) parts m n given given' one_goes other_goes
          (reading line) (woven later) refl after after' a a' step step'

      not_own : OwnCall m (reading line) → ⊥
      not_own o =
          let z : Frame.Call core ≡ Frame.Call o.core = sym is ∙ o.is_call in
          let c : core ≡ o.core = cc in
          let r : running m core ≡ 3 = rw c o.by_realm in
          ⊎_elim (λ (e : running m core ≡ 1). omega arith) (λ (e : running m core ≡ 2). omega arith) by
