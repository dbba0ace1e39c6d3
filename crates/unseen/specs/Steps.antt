-- One line: two machines that are alike stay so, and answer alike.
use Rattle.std.specs.Prelude.{◌≡◌, false, not, List, leb, Result}
use Rattle.std.proofs.Math.Path.{refl, subst}
use Rattle.std.proofs.Common.{sym, ap, ◌∙◌}
use Prim.Native.Nat.{ℕ}
use Rattle.parsing.specs.declared.Status.{Status}
use Rattle.calls.specs.declared.Made.{Made}
use Rattle.rules.specs.Sizes.{realm}
use Rattle.rules.specs.declared.Reason.{Reason}
use Rattle.registers.specs.Registers.{saved}
use Rattle.cores.specs.Power.{is_on}
use Rattle.cores.specs.Cores.{power}
use Rattle.judgements.specs.declared.Answer.TheVariants.{Done, No}
use Rattle.calls.specs.Step.{State}
use Rattle.calls.specs.Effects.{answer_in}
use Rattle.calls.specs.Left.{refused_some}
use Rattle.calls.specs.Beside as Beside
use Rattle.parsing.specs.declared.Frame.{Frame}
use Rattle.parsing.specs.declared.Frame.TheVariants as Frame
use Rattle.setup.specs.Table.{ready, cores}
use Rattle.setup.specs.Statuses.{ruled_done}
use Rattle.calling.specs.Calling.{trying, replied, calling}
use Rattle.frames.specs.Frames.{Machine, machine, state_of, framed}
use Rattle.frames.specs.Stays.{shown_not_told}
use Rattle.guarantees.specs.Runs.{Event, next, reply, Taken}
use Rattle.guarantees.specs.Fit.{Fit}
use Rattle.guarantees.specs.Accepted as Call
use Rattle.guarantees.specs.Statements.{running, number}
use Rattle.unseen.specs.Statements.{Alike}

-- ---- being alike
pub alike_same : (m : Machine) → Alike m m
alike_same m =
    record { setup = refl; named = refl; ledger = refl; owners = refl; powers = refl; turns = refl; numbers = λ core world j d. refl; places = λ world i d. refl }

pub alike_sym : {m n : Machine} → Alike m n → Alike n m
alike_sym a =
    record {
      setup = sym a.setup;
      named = sym a.named;
      ledger = sym a.ledger;
      owners = sym a.owners;
      powers = sym a.powers;
      turns = sym a.turns;
      numbers = λ core world j d. sym (a.numbers core world j d);
      places = λ world i d. sym (a.places world i d);
    }

pub alike_trans : {m n o : Machine} → Alike m n → Alike n o → Alike m o
alike_trans a b =
    record {
      setup = a.setup ∙ b.setup;
      named = a.named ∙ b.named;
      ledger = a.ledger ∙ b.ledger;
      owners = a.owners ∙ b.owners;
      powers = a.powers ∙ b.powers;
      turns = a.turns ∙ b.turns;
      numbers = λ core world j d. a.numbers core world j d ∙ b.numbers core world j d;
      places = λ world i d. a.places world i d ∙ b.places world i d;
    }

-- a machine with this set-up, these names and this state of the calls
abbrev pub machine_of : List ℕ → List ℕ → State → Machine
machine_of s n w = machine s n w.ledger w.owners w.saved w.powers w.turns w.lists

-- ---- what x0 tells of an accepted call by Realm
module _ (m : Machine) (fit : Fit m) (e : Event) (core : ℕ) (is : e.0 ≡ Frame.Call core) (t : Taken (reply m e)) (by_realm : running m core ≡ realm) where
  pub done_zero : answer_in (state_of m) core e.1 ≡ Done → number (next m e) core realm 0 ≡ 0
  done_zero a = subst (λ (w : ℕ). number (next m e) core w 0 ≡ 0) by_realm (Call.done_told m fit e core is t a)

  pub refused_not : (r : Reason) → answer_in (state_of m) core e.1 ≡ No r → number (next m e) core realm 0 ≡ 0 → ⊥
  refused_not r a z =
      refused_some (state_of m) core e.1 (Call.right m fit e core is t).whole.saved_whole (Call.inside m fit e core is t) (Call.calling m fit e core is t) r a
      (rw (by_realm, ← Call.saved_are m fit e core is t) z)

-- a call that no row of the table of statuses refuses is answered as a call
pub call_taken : (m : Machine) (core : ℕ) (xs : List ℕ) → not (ready m.setup) ≡ false → leb (cores m.setup) core ≡ false → not (is_on (power m.powers core)) ≡ false
    → Taken (framed m (Frame.Call core) xs).1
unfolding framed calling trying
call_taken m core xs a b c why h =
    shown_not_told core _ _ _ why (ap (λ (o : (List ℕ × State) × Result Made Status). replied core o.0.1 o.1) (ruled_done _ _ _ _ _ _ a b c refl) ∙ h)

-- ---- a line of both, met by a machine and by one that is alike
-- a machine with other numbers and other mappings
abbrev pub aside : Machine → List ℕ → List ℕ → Machine
aside n r k = machine n.setup n.named n.ledger n.owners r n.powers n.turns k
