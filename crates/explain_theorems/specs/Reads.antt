-- An input that comes in by any reads: the words that are handed over for them, one after the other, are those of the input.
use Rattle.std.specs.Prelude.{◌≡◌, ℕ, take}
use Rattle.std.proofs.Math.Path.{sym, ap}
use Rattle.std.proofs.Common.{◌∙◌}
use mathlib.Core.List.{List, [], ◌∷◌, ◌++◌, append-nil, append_assoc}
use Rattle.rules.specs.Choice.{pick}
use Rattle.lines.specs.Meant.{meant}
use Rattle.lines.specs.Parts.{complete, unfinished}
use Rattle.lines.specs.Input.{reading, reading_blind}
use Rattle.inputs.specs.Folds.{folded, left}
use Rattle.inputs.specs.Reads.{joined, left_over, all_left}
use Rattle.tracing.specs.Traced.{Kept, start, after_line}
use Rattle.views.specs.Views.{shown}
use Rattle.views.specs.declared.View.{View}
use Rattle.explaining.specs.Explained.{Line, told_line, words_of, explained}

module _ (v : View) where
  -- Any reads, and then the end of the input, where what waits is a line: after each read the words of its complete lines, as `take_read` hands them over.
  unfoldable pub spoken_over : Kept → List ℕ → List (List ℕ) → List ℕ
  spoken_over k waits [] = words_of v k (meant reading waits)
  spoken_over k waits (got ∷ reads) =
      let s = waits ++ got in
      words_of v k (meant reading (complete s)) ++ spoken_over (left after_line reading k (complete s)) (take 133 (unfinished s)) reads

  -- what is kept, and all words so far
  unfoldable more : Kept × List ℕ → Line → Kept × List ℕ
  more s e = (after_line s.0 e, s.1 ++ pick (shown v s.0.0 e) (told_line s.0 e) [])

  more_words : (es : List Line) (k : Kept) (t : List ℕ) → folded more (k, t) es ≡ (folded after_line k es, t ++ words_of v k es)
  unfolding folded more words_of
  more_words [] k t = rw (append-nil t)
  more_words (e ∷ es) k t = more_words es (after_line k e) (t ++ pick (shown v k.0 e) (told_line k e) []) ∙ rw (append_assoc t (pick (shown v k.0 e) (told_line k e) []) (words_of v (after_line k e) es))

  more_left : (input : List ℕ) (k : Kept) (t : List ℕ) → left more reading (k, t) input ≡ (left after_line reading k input, t ++ words_of v k (meant reading input))
  unfolding left
  more_left input k t = more_words (meant reading input) k t

  over_words : (reads : List (List ℕ)) (k : Kept) (t waits : List ℕ) → (left_over more reading (k, t) waits reads).1 ≡ t ++ spoken_over k waits reads
  unfolding left_over spoken_over
  over_words [] k t waits = ap (λ (q : Kept × List ℕ). q.1) (more_left waits k t)
  over_words (got ∷ reads) k t waits =
      let s = waits ++ got in
      let ws = words_of v k (meant reading (complete s)) in
      ap (λ (q : Kept × List ℕ). (left_over more reading q (take 133 (unfinished s)) reads).1) (more_left (complete s) k t)
      ∙ over_words reads (left after_line reading k (complete s)) (t ++ ws) (take 133 (unfinished s))
      ∙ append_assoc t ws (spoken_over (left after_line reading k (complete s)) (take 133 (unfinished s)) reads)

  -- However an input comes in, its words are the same.
  pub any_reads : (reads : List (List ℕ)) → spoken_over start [] reads ≡ explained v (joined reads)
  unfolding explained
  any_reads reads =
      sym (over_words reads start [] []) ∙ ap (λ (q : Kept × List ℕ). q.1) (all_left more reading reading_blind (start, []) reads) ∙ ap (λ (q : Kept × List ℕ). q.1) (more_left (joined reads) start [])
