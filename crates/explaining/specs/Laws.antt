-- How the code of a line meets the definitions, and what any lines come to where there is room for them.
use Rattle.std.proofs.Math.Path.{◌≡◌, ap}
use Rattle.std.specs.Prelude.{refl, Bool}
use Rattle.std.proofs.Common.{◌∙◌, le-leb}
use Rattle.std.proofs.Math.Bool.{true, false}
use mathlib.Core.List.{List, [], ◌∷◌, ◌++◌}
use Prim.Native.Nat.{ℕ, ◌+◌, ◌*◌, ◌≤◌}
use native.Mathlib.Omega.{arith}
use Rattle.std.proofs.Math.ListN.{length, length-append}
use Rattle.rules.specs.Choice.{pick, pick_yes, pick_no, by}
use Rattle.tools.specs.Laid.{laid, laid_append, length_laid}
use Rattle.parsing.specs.Frame.{is_call}
use Rattle.parsing.specs.declared.Frame.{Frame}
use Rattle.parsing.specs.declared.Frame.TheVariants as Frame
use Rattle.inputs.specs.Folds.{folded}
use Rattle.outcomes.specs.Outcomes.{came}
use Rattle.outcomes.specs.declared.Came.{Came}
use Rattle.origins.specs.Lines.{lines_in}
use Rattle.tracing.specs.Traced.{Kept, after_line}
use Rattle.tracing.specs.Laws.{came_idle, line_idle}
use Rattle.views.specs.Views.{shown, seen_line}
use Rattle.views.specs.Laws.{seen_idle}
use Rattle.views.specs.declared.View.{View}
use Rattle.views.specs.declared.Seen.{Seen}
use Rattle.running.specs.Running.{runs_after}
use Rattle.phrases.specs.Text.{line_text, told, longest, line_short}
use Rattle.phrases.specs.declared.Sentence.{Sentence}
use Rattle.telling.specs.Telling.{sentence_of}
use Rattle.explaining.specs.Explained.{Line, sentence, told_line, words_of, after_told}

-- ---- the code of a line
module _ (v : View) (k k' : Kept) (f : Frame) (xs : List ℕ) (q : Seen) (t : (k', q) ≡ seen_line v k (f, xs)) where
  seen_after : k' ≡ after_line k (f, xs)
  unfolding seen_line
  seen_after = ap (λ (p : Kept × Seen). p.0) t

  seen_came : q.came ≡ came k.0 f xs
  unfolding seen_line
  seen_came = ap (λ (p : Kept × Seen). p.1.came) t

  seen_shown : q.shown ≡ shown v k.0 (f, xs)
  unfolding seen_line
  seen_shown = ap (λ (p : Kept × Seen). p.1.shown) t

  pub line_told : (out out' : List ℕ) (at r : ℕ) → q.shown ≡ true
      → (r, out') ≡ told out at (line_text (sentence_of (lines_in k'.1.1) f xs q.came (runs_after f k'.0.powers k'.0.turns))) → (k', (r, out')) ≡ after_told v (k, (at, out)) (f, xs)
  unfolding after_told told_line sentence
  line_told out out' at r y h =
      rw (← seen_shown, y, pick_yes true, ← seen_came, ← seen_after, ← h)

  pub line_hidden : (out : List ℕ) (at : ℕ) → q.shown ≡ false → (k', (at, out)) ≡ after_told v (k, (at, out)) (f, xs)
  unfolding after_told
  line_hidden out at n = rw (← seen_shown, n, pick_no false, ← seen_after)

pub told_so : (n : ℕ) (l : List ℕ) (f : Frame) (xs p t : List ℕ) (c : Came) (runs : ℕ) (s : Sentence) (out out' : List ℕ) (at r : ℕ) → n ≡ lines_in l → runs ≡ runs_after f p t
    → s ≡ sentence_of n f xs c runs → (r, out') ≡ told out at (line_text s) → (r, out') ≡ told out at (line_text (sentence_of (lines_in l) f xs c (runs_after f p t)))
told_so n l f xs p t c runs s out out' at r a b d h = rw (← a, ← b, ← d) h

-- ---- the numbers beside a frame that is no call are not looked at
sentence_blind : (n : ℕ) (f : Frame) (ys : List ℕ) (c : Came) (runs : ℕ) → sentence_of n f (pick (is_call f) ys []) c runs ≡ sentence_of n f ys c runs
unfolding sentence_of pick
sentence_blind n (Frame.Site base pages cores) ys c runs = refl
sentence_blind n (Frame.Entry lowest last kind number) ys c runs = refl
sentence_blind n (Frame.Name lowest count to) ys c runs = refl
sentence_blind n (Frame.Call core) ys c runs = refl
sentence_blind n (Frame.Arrival core) ys c runs = refl
sentence_blind n (Frame.Refused why) ys c runs = refl

sentence_idle : (k : Kept) (f : Frame) (ys : List ℕ) → sentence k (f, pick (is_call f) ys []) ≡ sentence k (f, ys)
unfolding sentence
sentence_idle k f ys = rw (line_idle k f ys, came_idle k.0 f ys) (sentence_blind _ f ys _ _)

shown_so : (v : View) (k : Kept) (f : Frame) (ys : List ℕ) → shown v k.0 (f, pick (is_call f) ys []) ≡ shown v k.0 (f, ys)
unfolding seen_line
shown_so v k f ys = ap (λ (p : Kept × Seen). p.1.shown) (seen_idle v k f ys)

module _ (v : View) where
  pub told_idle : (s : Kept × (ℕ × List ℕ)) (f : Frame) (ys : List ℕ) → after_told v s (f, pick (is_call f) ys []) ≡ after_told v s (f, ys)
  unfolding after_told told_line
  told_idle s f ys = rw (line_idle s.0 f ys, sentence_idle s.0 f ys, shown_so v s.0 f ys)

  -- ---- where there is room for so many lines, all words stand behind each other
  shown_short : (k : Kept) (e : Line) → length (pick (shown v k.0 e) (told_line k e) []) ≤ longest
  unfolding told_line
  shown_short k e =
      by (λ (b : Bool). length (pick b (line_text (sentence k e)) []) ≤ longest) (shown v k.0 e)
      (λ y. rw (pick_yes true (line_text (sentence k e)) []) (line_short (sentence k e)))
      (λ n. rw (pick_no false (line_text (sentence k e)) []) (omega arith))

  pub words_short : (es : List Line) (k : Kept) → length (words_of v k es) ≤ length es * longest
  unfolding words_of
  words_short [] k = omega arith
  words_short (e ∷ es) k =
      let t = pick (shown v k.0 e) (told_line k e) [] in
      omega (arith, length-append t (words_of v (after_line k e) es), shown_short k e, words_short es (after_line k e))

  -- one line
  one_told : (k : Kept) (at : ℕ) (out : List ℕ) (e : Line) → at + longest ≤ length out
      → after_told v (k, (at, out)) e ≡ (after_line k e, (at + length (pick (shown v k.0 e) (told_line k e) []), laid out at (pick (shown v k.0 e) (told_line k e) [])))
  unfolding after_told told laid
  one_told k at out e h =
      let z : at + 0 ≡ at = omega arith in
      by (λ (b : Bool). ◌≡◌ {A = Kept × (ℕ × List ℕ)} (after_line k e, pick b (told out at (told_line k e)) (at, out))
      (after_line k e, (at + length (pick b (told_line k e) []), laid out at (pick b (told_line k e) [])))) (shown v k.0 e)
      (λ y. rw (pick_yes true (told out at (told_line k e)) (at, out), pick_yes true (told_line k e) [])
      (ap (λ (q : ℕ × List ℕ). (after_line k e, q)) (pick_yes _ _ _ (le-leb (at + longest) (length out) h))))
      (λ n. rw (pick_no false (told out at (told_line k e)) (at, out), pick_no false (told_line k e) [], z))

  pub all_told : (es : List Line) (k : Kept) (at : ℕ) (out : List ℕ) → at + length es * longest ≤ length out
      → folded (after_told v) (k, (at, out)) es ≡ (folded after_line k es, (at + length (words_of v k es), laid out at (words_of v k es)))
  unfolding folded words_of laid
  all_told [] k at out h = let z : at + 0 ≡ at = omega arith in rw z
  all_told (e ∷ es) k at out h =
      let t = pick (shown v k.0 e) (told_line k e) [] in
      let ws = words_of v (after_line k e) es in
      let b = shown_short k e in
      let l = length_laid out at t in
      let z : at + length t + length ws ≡ at + length (t ++ ws) = omega (arith, length-append t ws) in
      rw (one_told k at out e (omega arith))
      (all_told es (after_line k e) (at + length t) (laid out at t) (omega arith) ∙ rw (z, laid_append t ws out at))
