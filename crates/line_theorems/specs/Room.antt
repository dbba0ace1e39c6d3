-- The sentence of a line is not full: a piece is left out only where a sentence is full, and it stays full then, so none is left out.
-- And all of its signs count for its columns, but for the digits of its number past the sixth.
use Rattle.std.specs.Prelude.{◌≡◌, refl, true, false, List, [], ◌++◌, ℕ, suc, ◌+◌, ◌≤◌, ◌<◌, length}
use Rattle.std.proofs.Common.{sym, ap, ◌∙◌, append-nil, append_assoc, arith, length-append}
use Rattle.rules.specs.Choice.{pick, yes_or_no}
use Rattle.parsing.specs.declared.Frame.{Frame}
use Rattle.outcomes.specs.declared.Came.{Came}
use Rattle.phrases.specs.Sentence.{most, blank, ◌▹◌}
use Rattle.phrases.specs.Text.{right_text, piece_text, in_columns, extended, upto}
use Rattle.phrases.specs.declared.Piece.{Piece}
use Rattle.phrases.specs.declared.Piece.TheVariants.{Word, Number, Right, Line, Hex, Value, Column}
use Rattle.phrases.specs.declared.Sentence.{Sentence}
use Rattle.telling.specs.Telling.{sentence_of}
use Rattle.line_theorems.specs.Growing.{whole, Long, long_more, text_more, signs_more, within}
use Rattle.line_theorems.specs.Numbered.{past, number_room}
use Rattle.line_theorems.specs.Pieces.{is_line, who_of, asked_of, who_built, asked_built, said_built}

-- all signs of a piece count for the columns
plain_counts : (p : Piece) (n : ℕ) → is_line p ≡ false → in_columns p n ≡ n
plain_counts (Word x) n e = refl
plain_counts (Number x) n e = refl
plain_counts (Right x) n e = refl
plain_counts (Line x) n e = absurd (yes_or_no true refl e)
plain_counts (Hex x) n e = refl
plain_counts (Value x) n e = refl
plain_counts (Column x) n e = refl

-- a sentence of line `line` that begins with this text, and has at most so many pieces
pub record Has (line : ℕ) (base : List ℕ) (k : ℕ) (s : Sentence) : Type 0 where
  pub long : Long k s
  pub signs : length (whole s).0 ≡ (whole s).1 + past line
  pub rest : List ℕ
  pub begins : (whole s).0 ≡ base ++ rest

-- its number alone
start : (line : ℕ) → Has line [] 1 (blank ▹ Line line)
unfolding ◌▹◌ pick upto extended
start line = record { long = record { few = omega arith; all_long = refl }; signs = number_room line; rest = right_text 0 line; begins = refl }

-- all of a sentence as the text that it begins with
based : (line k : ℕ) (base : List ℕ) (s : Sentence) → Has line base k s → Has line (whole s).0 k s
based line k base s h = record { long = h.long; signs = h.signs; rest = []; begins = sym (append-nil (whole s).0) }

module _ (line : ℕ) (base : List ℕ) where
  -- of one sentence, where it is said of two, and as long as there is room
  abbrev OfOne : ℕ → Sentence → Sentence → Type 0
  OfOne k s t = k ≤ most → Has line base k s

  weak : (k l : ℕ) (s t : Sentence) → OfOne k s t → k ≤ l → OfOne l s t
  weak k l s t h g r = let a = h (omega arith) in record { long = within k l s a.long g; signs = a.signs; rest = a.rest; begins = a.begins }

  one : (k : ℕ) (s : Sentence) (p : Piece) → is_line p ≡ false → Has line base k s → k < most → Has line base (suc k) (s ▹ p)
  one k s p plain h g =
      let x = piece_text (whole s).1 p in
      let grows = text_more k s p h.long g in
      record {
        long = long_more k s p h.long g;
        signs = ap length grows ∙ omega (arith, length-append (whole s).0 x, signs_more k s p h.long g, plain_counts p (length x) plain, h.signs);
        rest = h.rest ++ x;
        begins = grows ∙ ap (λ (l : List ℕ). l ++ x) h.begins ∙ append_assoc base h.rest x;
      }

  step : (k : ℕ) (s t : Sentence) (p : Piece) → is_line p ≡ false → OfOne k s t → OfOne (suc k) (s ▹ p) (t ▹ p)
  step k s t p plain h r = one k s p plain (h (omega arith)) (omega arith)

-- ---- the parts of the sentence of any line
module _ (n : ℕ) (f : Frame) (xs : List ℕ) (c : Came) (now : ℕ) where
  pub who_has : Has n [] 9 (who_of n f c)
  who_has = who_built (OfOne n []) (step n []) (weak n []) n n f c (λ r. start n) (omega arith)

  abbrev who : List ℕ
  who = (whole (who_of n f c)).0

  pub asked_has : Has n (whole (who_of n f c)).0 19 (asked_of n f xs c now)
  asked_has = asked_built (OfOne n who) (step n who) (weak n who) n n f xs c now (λ r. based n 9 [] _ who_has) (omega arith)

  -- with the column of what came
  pub column_has : Has n (whole (who_of n f c)).0 20 (asked_of n f xs c now ▹ Column 72)
  column_has = one n who 19 (asked_of n f xs c now) (Column 72) refl asked_has (omega arith)

  sentence_has : Has n who 25 (sentence_of n f xs c now)
  sentence_has = said_built (OfOne n who) (step n who) (weak n who) n n f xs c now (λ r. column_has) (omega arith)

  -- It has room for more.
  pub never_full : (sentence_of n f xs c now).count < most
  never_full = omega (arith, sentence_has.long.few)
