-- Why exactly the accepted calls count, each for its caller and with what it was answered.
use Rattle.std.specs.Prelude.{◌≡◌, refl, true, false, ℕ, ◌+◌, length}
use Rattle.std.proofs.Common.{sym, ap, ◌∙◌, arith, length-append}
use mathlib.Core.List.{List, [], ◌∷◌}
use Rattle.rules.specs.Choice.{pick, chosen}
use Rattle.judgements.specs.Judge.{called_by}
use Rattle.judgements.proofs.Asked.{called_for}
use Rattle.judgements.specs.declared.Deed.TheVariants.{GoOff, HandOver, Finish}
use Rattle.answers.specs.Answers.{told}
use Rattle.calls.specs.Step.{sight, called}
use Rattle.calls.specs.Effects.{answer_in, results_in}
use Rattle.parsing.specs.declared.Status.{Status}
use Rattle.parsing.specs.declared.Frame.{Frame}
use Rattle.parsing.specs.declared.Frame.TheVariants as Frame
use Rattle.calling.specs.Calling.{performed}
use Rattle.showing.specs.Showing.{shown_on}
use Rattle.showing.specs.declared.Reply.{Reply}
use Rattle.showing.specs.declared.Reply.TheVariants.{Told}
use Rattle.frames.specs.Frames.{Machine, first, state_of}
use Rattle.frames.specs.Stays.{shown_not_told}
use Rattle.counting.specs.Counted.{Line, Counted, counted_of, counted_in}
use Rattle.guarantees.specs.Runs.{Event, Events, next, reply, Taken, replies}
use Rattle.guarantees.specs.Fit.{Fit}
use Rattle.guarantees.specs.Statements.{running, HeededCall}
use Rattle.guarantees.proofs.Steps.{heeded, hands, gives_back, goes_off}
use Rattle.report_theorems.specs.Statements.{joined, runs_of, calls, calls_in, CountedCall, CountedLine}
use Rattle.report_theorems.specs.ByFrame.{counted_by}
use Rattle.report_theorems.specs.Accepted.{call_is, none_zero}

module _ (m : Machine) (e : Event) where
  told_none : (why : Status) → reply m e ≡ Told why → counted_of m e.0 e.1 ≡ []
  unfolding performed
  told_none why =
      counted_by m e.1 (λ (g : Frame) (o : Machine × Reply) (cs : List Counted). o.1 ≡ Told why → cs ≡ [])
      (λ g last w k. refl) (λ core a b c k. absurd (shown_not_told _ _ _ _ why k)) e.0

  module _ (core : ℕ) (is : e.0 ≡ Frame.Call core) (t : Taken (reply m e)) where
    counted_one : counted_of m e.0 e.1 ≡ (running m core, told (called_by e.1) (answer_in (state_of m) core e.1)) ∷ []
    unfolding called
    counted_one =
        counted_by m e.1
        (λ (g : Frame) (o : Machine × Reply) (cs : List Counted). g ≡ Frame.Call core → Taken o.1 → cs ≡ (running m core, told (called_by e.1) (answer_in (state_of m) core e.1)) ∷ [])
        (λ g last w k (taken : Taken (Told w)). absurd (taken w refl)) (λ c a b d k taken. rw (call_is k)) e.0 is t

    module _ (fit : Fit m) (eight : length e.1 ≡ 8) where
      found : HeededCall m core e.1 (next m e) (reply m e)
      found = (heeded m fit e).call core is eight t

      counted_call : CountedCall m core e.1 (next m e) (counted_of m e.0 e.1)
      counted_call =
          record {
            answer = told (called_by e.1) (answer_in (state_of m) core e.1);
            one = counted_one;
            written = λ h. sym (found.results 0 h);
            silent = none_zero (results_in (state_of m) core e.1);
            handed_over = λ to a. rw (called_for (sight (state_of m) core) e.1 (HandOver to) (λ k. let z : ◌≡◌ {A = ℕ} 0 1 = cc in omega arith) (hands m fit e core is t to a)).so.1;
            finished = λ a. rw (called_for (sight (state_of m) core) e.1 Finish (λ k. let z : ◌≡◌ {A = ℕ} 0 1 = cc in omega arith) (gives_back m fit e core is t a)).so.1;
            switched_off = λ a. rw (called_for (sight (state_of m) core) e.1 GoOff (λ k. let z : ◌≡◌ {A = ℕ} 0 1 = cc in omega arith) (goes_off m fit e core is t a)).so.1;
          }

pub line_counted : (m : Machine) → Fit m → (e : Event) → CountedLine m e (next m e) (reply m e) (counted_of m e.0 e.1)
line_counted m fit e = record { told = told_none m e; call = λ core is eight t. counted_call m e core is t fit eight }

-- ---- how many
one_more : (m : Machine) (e : Event) (rs : List Reply) → calls (reply m e ∷ rs) ≡ length (counted_of m e.0 e.1) + calls rs
unfolding calls performed shown_on
one_more m e rs =
    counted_by m e.1 (λ (g : Frame) (o : Machine × Reply) (cs : List Counted). calls (o.1 ∷ rs) ≡ length cs + calls rs)
    (λ g last w. omega arith) (λ core a b c. chosen (λ (r : Reply). calls (r ∷ rs) ≡ 1 + calls rs) _ _ _ (λ y. omega arith) (λ n. omega arith)) e.0

joined_calls : (m : Machine) (e : Event) (rs : List Events) → calls_in m (joined e rs) ≡ length (counted_of m e.0 e.1) + calls_in (next m e) rs
unfolding calls_in replies calls
joined_calls m e [] = omega (arith, one_more m e [])
joined_calls m e (r ∷ rs) = omega (arith, one_more m e (replies (next m e) r))

pub length_counted : (ls : List Line) (m : Machine) → length (counted_in m ls) ≡ calls_in m (runs_of ls)
unfolding counted_in runs_of calls_in replies calls pick
length_counted [] m = refl
length_counted ((true, e) ∷ ls) m = omega (arith, length_counted ls first)
length_counted ((false, e) ∷ ls) m =
    length-append (counted_of m e.0 e.1) _ ∙ ap (λ (n : ℕ). length (counted_of m e.0 e.1) + n) (length_counted ls (next m e)) ∙ sym (joined_calls m e (runs_of ls))
