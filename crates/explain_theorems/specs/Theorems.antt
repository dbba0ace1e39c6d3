-- The theorems: for any input, whatever its bytes, the words are the sentences of its lines, one for each, by the monitor's replies.
use Rattle.std.specs.Prelude.{◌≡◌, refl, List, [], ◌∷◌, ◌++◌, map, ℕ, suc, ◌+◌, ◌≤◌, length}
use Rattle.std.proofs.Common.{ap, ◌∙◌, append_assoc, arith}
use Rattle.std.proofs.lemmas.List.{length-map}
use Rattle.rules.specs.Choice.{pick, chosen_two}
use Rattle.cores.specs.Power.{is_on}
use Rattle.cores.specs.Cores.{power}
use Rattle.calls.specs.Step.{called}
use Rattle.calling.specs.Calling.{performed}
use Rattle.parsing.specs.declared.Status.{Status}
use Rattle.parsing.specs.declared.Frame.{Frame}
use Rattle.parsing.specs.declared.Frame.TheVariants as Frame
use Rattle.lines.specs.Lines.{lines_of, lines_first}
use Rattle.lines.specs.Meant.{meant}
use Rattle.lines.specs.Input.{reading, readings}
use Rattle.frames.specs.Frames.{Machine, first, state_of, framed}
use Rattle.showing.specs.Showing.{shown_on}
use Rattle.showing.specs.declared.Reply.{Reply}
use Rattle.showing.specs.declared.Reply.TheVariants as Reply
use Rattle.outcomes.specs.Outcomes.{came}
use Rattle.outcomes.specs.Laws.{came_by}
use Rattle.outcomes.specs.declared.Came.{Came}
use Rattle.outcomes.specs.declared.Came.TheVariants.{Told, Called}
use Rattle.origins.specs.Lines.{most, WholeLines, lines_in, one_more, first_lines, first_whole, more_whole, more_lines}
use Rattle.tracing.specs.Traced.{Kept, start, after_line}
use Rattle.views.specs.Views.{shows}
use Rattle.views.specs.declared.View.TheVariants.{All}
use Rattle.running.specs.Running.{running_on, runs_after}
use Rattle.phrases.specs.Text.{text_of, line_text}
use Rattle.telling.specs.Telling.{sentence_of}
use Rattle.explaining.specs.Explained.{sentence, told_line, words_of, explained}
use Rattle.guarantees.specs.Runs.{Event, Events}
use Rattle.explain_theorems.specs.Statements.{said_of, said_from, ToldInWords}
use Rattle.explain_theorems.specs.Unbroken.{text_unbroken}

-- ---- the answer told is the answer that the call got
-- a line that is told its status is told it whatever runs
told_any : (n : ℕ) (f : Frame) (xs : List ℕ) (why : Status) (a b : ℕ) → sentence_of n f xs (Told why) a ≡ sentence_of n f xs (Told why) b
unfolding sentence_of
told_any n (Frame.Site base pages cores) xs why a b = refl
told_any n (Frame.Entry lowest last kind number) xs why a b = refl
told_any n (Frame.Name lowest count to) xs why a b = refl
told_any n (Frame.Call core) xs why a b = refl
told_any n (Frame.Arrival core) xs why a b = refl
told_any n (Frame.Refused why') xs why a b = refl

-- an accepted call is told with the world that its reply shows
call_told : (n : ℕ) (m : Machine) (core : ℕ) (xs r p t : List ℕ)
    → sentence_of n (Frame.Call core) xs (Called (called (state_of m) core xs).1) (running_on p t core) ≡ said_of n m (Frame.Call core, xs) (shown_on core r p t)
unfolding running_on shown_on
call_told n m core xs r p t =
    chosen_two (λ (world : ℕ) (o : Reply). sentence_of n (Frame.Call core) xs (Called (called (state_of m) core xs).1) world ≡ said_of n m (Frame.Call core, xs) o) (is_on (power p core)) _ _ _ _ (λ y. refl) (λ n. refl)

module _ (n : ℕ) (m : Machine) (xs : List ℕ) where
  abbrev So : Frame → Machine × Reply → Came → Type 0
  So f o c = sentence_of n f xs c (runs_after f o.0.powers o.0.turns) ≡ said_of n m (f, xs) o.1

  -- The sentence of a line is the one of the monitor's reply.
  pub answer_told : (f : Frame) → So f (framed m f xs) (came m f xs)
  unfolding performed
  answer_told =
      came_by m xs So (λ f last why e. told_any n f xs why _ 255) (λ core a b c. call_told n m core xs _ _ _)

-- ---- one line for each
-- all lines are shown
all_shown : (k : Kept) (e : Event) (es : Events) → words_of All k (e ∷ es) ≡ text_of (sentence k e) ++ 10 ∷ words_of All (after_line k e) es
unfolding words_of told_line line_text shows pick
all_shown k e es = append_assoc (text_of (sentence k e)) (10 ∷ []) (words_of All (after_line k e) es)

sentence_said : (k : Kept) (e : Event) (n : ℕ) → lines_in (one_more k.1.1) ≡ n → sentence k e ≡ said_of n k.0 e (framed k.0 e.0 e.1).1
unfolding sentence after_line
sentence_said k e n z = rw z (answer_told n k.0 e.1 e.0)

lines_told : (es : Events) (k : Kept) (n : ℕ) → WholeLines k.1.1 → lines_in k.1.1 + 1 ≡ n → lines_in k.1.1 + length es ≤ most → lines_of (words_of All k es) ≡ map text_of (said_from n k.0 es)
unfolding words_of said_from lines_of after_line
lines_told [] k n w z h = refl
lines_told (e ∷ es) k n w z h =
    let c = more_lines k.1.1 w (omega arith) in
    ap lines_of (all_shown k e es)
    ∙ lines_first (text_of (sentence k e)) (words_of All (after_line k e) es) (text_unbroken (sentence k e))
    ∙ rw (lines_told es (after_line k e) (n + 1) (more_whole k.1.1 w) (omega (arith, c)) (omega (arith, c)), sentence_said k e n (omega (arith, c)))

length_said : (es : Events) (n : ℕ) (m : Machine) → length (said_from n m es) ≡ length es
unfolding said_from
length_said [] n m = refl
length_said (e ∷ es) n m = ap suc (length_said es (n + 1) (framed m e.0 e.1).0)

-- For any input of fewer than 2^64 lines.
pub any_input : (input : List ℕ) → length (lines_of input) ≤ most → ToldInWords input
unfolding explained meant
any_input input few =
    let es = readings input in
    let l : length es ≡ length (lines_of input) = length-map (lines_of input) reading in
    let t : lines_of (explained All input) ≡ map text_of (said_from 1 first es) = lines_told es start 1 first_whole (omega (arith, first_lines)) (omega (arith, first_lines)) in
    record { count = ap length t ∙ length-map (said_from 1 first es) text_of ∙ length_said es 1 first ∙ l; lines = t }
