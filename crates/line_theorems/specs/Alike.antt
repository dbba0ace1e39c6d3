-- Behind its number a line reads the same whatever its number is; and what came of it reads the same wherever it stands.
use Rattle.std.specs.Prelude.{◌≡◌, true, false, List, [], ◌++◌, ℕ, suc, ◌+◌, ◌≤◌, ◌<◌, length}
use Rattle.std.proofs.Math.Path.{refl, sym}
use Rattle.std.proofs.Common.{ap, ◌∙◌, append-nil, append_assoc, arith}
use Rattle.rules.specs.Choice.{pick, yes_or_no}
use Rattle.parsing.specs.declared.Frame.{Frame}
use Rattle.parsing.specs.declared.Frame.TheVariants as Frame
use Rattle.outcomes.specs.declared.Came.{Came}
use Rattle.outcomes.specs.declared.Came.TheVariants.{Told, Called}
use Rattle.words.specs.Words as w
use Rattle.phrases.specs.Sentence.{most, blank, ◌▹◌}
use Rattle.phrases.specs.Text.{right_text, piece_text, in_columns, extended, upto, text_of}
use Rattle.phrases.specs.declared.Piece.{Piece}
use Rattle.phrases.specs.declared.Piece.TheVariants.{Word, Number, Right, Line, Hex, Value, Column}
use Rattle.phrases.specs.declared.Sentence.{Sentence}
use Rattle.asking.specs.Forms.{done_word}
use Rattle.outcome_words.specs.Came.{status_word, answered, came_said}
use Rattle.telling.specs.Telling.{sentence_of}
use Rattle.line_theorems.specs.Growing.{whole, Long, long_more, text_more, signs_more, within, text_whole}
use Rattle.line_theorems.specs.Pieces.{is_line, is_flat, asked_of, answer_built, who_built, asked_built, said_built}

-- ---- two numbers
-- texts that are the same behind these two numbers
pub record Apart (n m : ℕ) (a b : List ℕ) : Type 0 where
  pub tail : List ℕ
  pub left : a ≡ right_text 0 n ++ tail
  pub right : b ≡ right_text 0 m ++ tail

record Same (n m k : ℕ) (s t : Sentence) : Type 0 where
  first : Long k s
  second : Long k t
  wide : (whole s).1 ≡ (whole t).1
  apart : Apart n m (whole s).0 (whole t).0

module _ (n m : ℕ) where
  -- as long as there is room
  abbrev Alike : ℕ → Sentence → Sentence → Type 0
  Alike k s t = k ≤ most → Same n m k s t

  numbers : Alike 1 (blank ▹ Line n) (blank ▹ Line m)
  unfolding ◌▹◌ pick upto extended
  numbers h = record {
    first = record { few = omega arith; all_long = refl };
    second = record { few = omega arith; all_long = refl };
    wide = refl;
    apart = record { tail = []; left = sym (append-nil (right_text 0 n)); right = sym (append-nil (right_text 0 m)) };
  }

  weak : (k l : ℕ) (s t : Sentence) → Alike k s t → k ≤ l → Alike l s t
  weak k l s t h g r = let a = h (omega arith) in record { first = within k l s a.first g; second = within k l t a.second g; wide = a.wide; apart = a.apart }

  step : (k : ℕ) (s t : Sentence) (p : Piece) → is_line p ≡ false → Alike k s t → Alike (suc k) (s ▹ p) (t ▹ p)
  step k s t p plain h r =
      let a = h (omega arith) in
      let g : k < most = omega arith in
      let x = piece_text (whole s).1 p in
      let tail = a.apart.tail in
      let same : piece_text (whole t).1 p ≡ x = ap (λ (v : ℕ). piece_text v p) (sym a.wide) in
      record {
        first = long_more k s p a.first g;
        second = long_more k t p a.second g;
        wide = signs_more k s p a.first g ∙ ap (λ (v : ℕ). v + in_columns p (length (piece_text v p))) a.wide ∙ sym (signs_more k t p a.second g);
        apart = record {
          tail = tail ++ x;
          left = text_more k s p a.first g ∙ ap (λ (l : List ℕ). l ++ x) a.apart.left ∙ append_assoc (right_text 0 n) tail x;
          right = text_more k t p a.second g ∙ ap (λ (l : List ℕ). (whole t).0 ++ l) same ∙ ap (λ (l : List ℕ). l ++ x) a.apart.right ∙ append_assoc (right_text 0 m) tail x;
        };
      }

  -- Line n and line m with the same frame, numbers and outcome.
  pub number_apart : (f : Frame) (xs : List ℕ) (c : Came) (now : ℕ) → Apart n m (text_of (sentence_of n f xs c now)) (text_of (sentence_of m f xs c now))
  number_apart f xs c now =
      let who = who_built Alike step weak n m f c numbers in
      let asked = asked_built Alike step weak n m f xs c now who in
      let said = said_built Alike step weak n m f xs c now (step 19 _ _ (Column 72) refl asked) (omega arith) in
      let a = said.apart in
      record {
        tail = a.tail;
        left = text_whole 25 _ said.first (omega arith) ∙ a.left;
        right = text_whole 25 _ said.second (omega arith) ∙ a.right;
      }

-- ---- what came of a line, by itself
-- the word for 00, and those for 74, 75 and what is granted, by the frame
abbrev accepted_of : Frame → ℕ
accepted_of (Frame.Site base pages cores) = w.accepted
accepted_of (Frame.Entry lowest last kind handler) = w.accepted
accepted_of (Frame.Name lowest count owner) = w.accepted
accepted_of (Frame.Call core) = w.accepted
accepted_of (Frame.Arrival core) = w.arrived
accepted_of (Frame.Refused why) = w.accepted

abbrev range_of : Frame → ℕ
range_of (Frame.Site base pages cores) = w.out_of_range
range_of (Frame.Entry lowest last kind handler) = w.out_of_range
range_of (Frame.Name lowest count owner) = w.out_of_range
range_of (Frame.Call core) = w.no_core
range_of (Frame.Arrival core) = w.no_core
range_of (Frame.Refused why) = w.out_of_range

abbrev clash_of : Frame → ℕ
clash_of (Frame.Site base pages cores) = w.out_of_range
clash_of (Frame.Entry lowest last kind handler) = w.given_before
clash_of (Frame.Name lowest count owner) = w.named_before
clash_of (Frame.Call core) = w.not_on
clash_of (Frame.Arrival core) = w.not_pending
clash_of (Frame.Refused why) = w.out_of_range

abbrev done_of : Frame → List ℕ → ℕ
done_of (Frame.Site base pages cores) xs = w.granted
done_of (Frame.Entry lowest last kind handler) xs = w.granted
done_of (Frame.Name lowest count owner) xs = w.granted
done_of (Frame.Call core) xs = done_word xs
done_of (Frame.Arrival core) xs = w.granted
done_of (Frame.Refused why) xs = w.granted

abbrev came_by : ℕ → ℕ → ℕ → ℕ → Came → ℕ → Sentence
came_by accepted range clash done (Told why) now = blank ▹ Word (status_word why accepted range clash)
came_by accepted range clash done (Called made) now = answered blank made.answer done now

abbrev pub came_of : Frame → List ℕ → Came → ℕ → Sentence
came_of f xs c now = came_by (accepted_of f) (range_of f) (clash_of f) (done_of f xs) c now

said_is : (n : ℕ) (f : Frame) (xs : List ℕ) (c : Came) (now : ℕ) → sentence_of n f xs c now ≡ came_said (asked_of n f xs c now) (accepted_of f) (range_of f) (clash_of f) (done_of f xs) c now
unfolding sentence_of
said_is n (Frame.Site base pages cores) xs c now = refl
said_is n (Frame.Entry lowest last kind handler) xs c now = refl
said_is n (Frame.Name lowest count owner) xs c now = refl
said_is n (Frame.Call core) xs c now = refl
said_is n (Frame.Arrival core) xs c now = refl
said_is n (Frame.Refused why) xs c now = refl

flat_text : (p : Piece) (v u : ℕ) → is_flat p ≡ true → piece_text v p ≡ piece_text u p
flat_text (Word x) v u e = refl
flat_text (Number x) v u e = refl
flat_text (Right x) v u e = refl
flat_text (Line x) v u e = refl
flat_text (Hex x) v u e = refl
flat_text (Value x) v u e = refl
flat_text (Column x) v u e = absurd (yes_or_no false e refl)

-- one sentence has the text of the other behind this
pub record Beside (base : List ℕ) (k : ℕ) (s t : Sentence) : Type 0 where
  pub first : Long k s
  pub second : Long k t
  pub is : (whole s).0 ≡ base ++ (whole t).0

module _ (base : List ℕ) where
  abbrev Besides : ℕ → Sentence → Sentence → Type 0
  Besides k s t = k ≤ most → Beside base k s t

  fewer : (k l : ℕ) (s t : Sentence) → Besides k s t → k ≤ l → Besides l s t
  fewer k l s t h g r = let a = h (omega arith) in record { first = within k l s a.first g; second = within k l t a.second g; is = a.is }

  more : (k : ℕ) (s t : Sentence) (p : Piece) → is_flat p ≡ true → Besides k s t → Besides (suc k) (s ▹ p) (t ▹ p)
  more k s t p flat h r =
      let a = h (omega arith) in
      let g : k < most = omega arith in
      let x = piece_text (whole t).1 p in
      record {
        first = long_more k s p a.first g;
        second = long_more k t p a.second g;
        is =
            text_more k s p a.first g ∙ ap (λ (l : List ℕ). (whole s).0 ++ l) (flat_text p (whole s).1 (whole t).1 flat) ∙ ap (λ (l : List ℕ). l ++ x) a.is
            ∙ append_assoc base (whole t).0 x ∙ ap (λ (l : List ℕ). base ++ l) (sym (text_more k t p a.second g));
      }

alone : (s : Sentence) → Long 20 s → Beside (whole s).0 20 s blank
unfolding upto
alone s l = record { first = l; second = record { few = omega arith; all_long = refl }; is = sym (append-nil (whole s).0) }

came_beside : (s : Sentence) (accepted range clash done : ℕ) (c : Came) (now : ℕ) (t : Sentence) → Long 20 (s ▹ Column 72) → t ≡ came_by accepted range clash done c now
    → Beside (whole (s ▹ Column 72)).0 25 (came_said s accepted range clash done c now) t
came_beside s accepted range clash done (Told why) now t l e =
    rw e (fewer _ 21 25 _ _ (more _ 20 (s ▹ Column 72) blank (Word (status_word why accepted range clash)) refl (λ r. alone (s ▹ Column 72) l)) (omega arith) (omega arith))
came_beside s accepted range clash done (Called made) now t l e = rw e (answer_built (Besides _) (more _) (fewer _) 20 _ blank made.answer done now (λ r. alone (s ▹ Column 72) l) (omega arith))

pub came_alone : (n : ℕ) (f : Frame) (xs : List ℕ) (c : Came) (now : ℕ) → Long 20 (asked_of n f xs c now ▹ Column 72)
    → Beside (whole (asked_of n f xs c now ▹ Column 72)).0 25 (sentence_of n f xs c now) (came_of f xs c now)
came_alone n f xs c now l = rw (said_is n f xs c now) (came_beside (asked_of n f xs c now) (accepted_of f) (range_of f) (clash_of f) (done_of f xs) c now (came_of f xs c now) l refl)
