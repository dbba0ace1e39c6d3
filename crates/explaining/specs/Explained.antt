-- The words of a run: a line of them for each line of the input that is to be shown, in order.
use Rattle.std.specs.Prelude.{List, [], ◌∷◌, ◌++◌, ℕ}
use Rattle.rules.specs.Choice.{pick}
use Rattle.parsing.specs.declared.Frame.{Frame}
use Rattle.lines.specs.Meant.{meant}
use Rattle.lines.specs.Input.{reading}
use Rattle.outcomes.specs.Outcomes.{came}
use Rattle.origins.specs.Lines.{lines_in}
use Rattle.tracing.specs.Traced.{Kept, start, after_line}
use Rattle.views.specs.Views.{shown}
use Rattle.views.specs.declared.View.{View}
use Rattle.running.specs.Running.{runs_after}
use Rattle.phrases.specs.Text.{line_text, told}
use Rattle.phrases.specs.declared.Sentence.{Sentence}
use Rattle.telling.specs.Telling.{sentence_of}

-- a line: its frame, and the eight numbers beside it
abbrev pub Line : Type 0
Line = Frame × List ℕ

-- ---- one line
-- its sentence: its number, what is asked, what came of it, and the world that runs on its core then
unfoldable pub sentence : Kept → Line → Sentence
sentence k e =
    let after = after_line k e in
    sentence_of (lines_in after.1.1) e.0 e.1 (came k.0 e.0 e.1) (runs_after e.0 after.0.powers after.0.turns)

-- its words, with their newline
unfoldable pub told_line : Kept → Line → List ℕ
told_line k e = line_text (sentence k e)

module _ (v : View) where
  -- ---- any lines: of those that are shown
  unfoldable pub words_of : Kept → List Line → List ℕ
  words_of k [] = []
  words_of k (e ∷ es) = pick (shown v k.0 e) (told_line k e) [] ++ words_of (after_line k e) es

  -- the words of an input
  unfoldable pub explained : List ℕ → List ℕ
  explained input = words_of start (meant reading input)

  -- ---- with the space that they are put to, and how much of it is taken
  unfoldable pub after_told : Kept × (ℕ × List ℕ) → Line → Kept × (ℕ × List ℕ)
  after_told s e = (after_line s.0 e, pick (shown v s.0.0 e) (told s.1.1 s.1.0 (told_line s.0 e)) s.1)
