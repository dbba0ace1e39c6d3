-- What a run told in words says, line by line, beside what the monitor answers.
use Rattle.std.specs.Prelude.{◌≡◌, List, [], ◌∷◌, map, ℕ, ◌+◌, length}
use Rattle.calls.specs.Step.{called}
use Rattle.lines.specs.Lines.{lines_of}
use Rattle.lines.specs.Input.{readings}
use Rattle.frames.specs.Frames.{Machine, first, state_of, framed}
use Rattle.showing.specs.declared.Reply.{Reply}
use Rattle.showing.specs.declared.Reply.TheVariants as Reply
use Rattle.outcomes.specs.declared.Came.TheVariants.{Told, Called}
use Rattle.phrases.specs.Text.{text_of}
use Rattle.phrases.specs.declared.Sentence.{Sentence}
use Rattle.telling.specs.Telling.{sentence_of}
use Rattle.views.specs.declared.View.TheVariants.{All}
use Rattle.explaining.specs.Explained.{explained}
use Rattle.guarantees.specs.Runs.{Event, Events}

-- The sentence of a line, with its number, by the monitor's own reply to it: the status that it is told; or of an accepted call who
-- called and what was answered, as the call itself gives them, and the world that the reply shows.
abbrev pub said_of : ℕ → Machine → Event → Reply → Sentence
said_of n m e (Reply.Told why) = sentence_of n e.0 e.1 (Told why) 255
said_of n m e (Reply.Called core world shown) = sentence_of n e.0 e.1 (Called (called (state_of m) core e.1).1) world

-- the sentences of lines, from a machine and a number on
unfoldable pub said_from : ℕ → Machine → Events → List Sentence
said_from n m [] = []
said_from n m (e ∷ rest) = said_of n m e (framed m e.0 e.1).1 ∷ said_from (n + 1) (framed m e.0 e.1).0 rest

-- ---- of an input
pub record ToldInWords (input : List ℕ) : Type 0 where
  -- There is one line of words for each line of the input.
  pub count : length (lines_of (explained All input)) ≡ length (lines_of input)
  -- They are the sentences of its lines, numbered from 1, each by the reply of the monitor that took the lines before it.
  pub lines : lines_of (explained All input) ≡ map text_of (said_from 1 first (readings input))
