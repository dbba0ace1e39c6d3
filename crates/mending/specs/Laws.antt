-- How the code's branches meet the definitions of Judged, and that no more than 133 bytes of a line are asked for.
use Rattle.std.specs.Prelude.{◌≡◌, Bool, true, false, List, [], ℕ, ◌<◌, leb, length, take}
use Rattle.std.proofs.Math.Path.{refl}
use Rattle.std.proofs.Common.{sym, ap, ◌∙◌, arith, take_all, take-take, leb-true, leb-false}
use Rattle.rules.specs.Choice.{pick, picked, passed, either}
use Rattle.parsing.specs.Frame.{is_call}
use Rattle.parsing.specs.declared.Status.TheVariants as Status
use Rattle.parsing.specs.declared.Frame.{Frame}
use Rattle.parsing.specs.declared.Frame.TheVariants as Frame
use Rattle.lines.specs.Meant.{Blind}
use Rattle.lines.specs.Input.{reading, reading_blind, long_reading}
use Rattle.registers.specs.declared.Shown.{Shown}
use Rattle.showing.specs.declared.Reply.{Reply}
use Rattle.showing.specs.declared.Reply.TheVariants as Reply
use Rattle.frames.specs.Frames.{Machine, framed}
use Rattle.answering.specs.Answer.{numbers_idle}
use Rattle.sheets.specs.Sheet.{Sheet, sheet, counting, noted_on}
use Rattle.mending.specs.Judged.{later, status_of, judged, meaning, Kept, after_line}

-- ---- a frame and its verdict
pub status_called : (r : Reply) (core world : ℕ) (x : Shown) → r ≡ Reply.Called core world x → 0 ≡ status_of r
status_called r core world x e = rw e

module _ (m : Machine) (f : Frame) (xs : List ℕ) (b : Bool) (is : b ≡ later f) where
  pub judges_later : b ≡ true → (m, 0x73) ≡ judged m f xs
  unfolding judged
  judges_later e = picked _ _ _ _ (sym is ∙ e) refl

  pub judges_other : (m' : Machine) (r : Reply) (n : ℕ) → b ≡ false → (m', r) ≡ framed m f xs → n ≡ status_of r → (m', n) ≡ judged m f xs
  unfolding judged
  judges_other m' r n e h g = passed _ _ _ _ (sym is ∙ e) (rw (← h, g))

pub ruleset judges = (judges_later, judges_other)

-- ---- a line
module _ (m : Machine) (k d e : List ℕ) (f : Frame) (xs l : List ℕ) (c : Bool) (e' : List ℕ) (is : (c, e') ≡ counting e) where
  pub takes_line : (m' : Machine) (n : ℕ) (s' : Sheet) → c ≡ true → (m', n) ≡ judged m f xs → s' ≡ noted_on (sheet k d e') n l
      → (m', s') ≡ after_line (m, sheet k d e) ((f, xs), l)
  unfolding after_line
  takes_line m' n s' y h g = rw (← is) (picked _ _ _ _ y (rw (← h, g)))

  pub takes_none : c ≡ false → (m, sheet k d e') ≡ after_line (m, sheet k d e) ((f, xs), l)
  unfolding after_line
  takes_none n = rw (← is) (passed _ _ _ _ n refl)

pub ruleset takes = (takes_line, takes_none)

-- ---- what is not looked at
-- the numbers beside a frame that is no call
judged_idle : (m : Machine) (f : Frame) (ys : List ℕ) → judged m f (pick (is_call f) ys []) ≡ judged m f ys
unfolding judged
judged_idle m f ys = rw (numbers_idle m f ys)

pub line_idle : (k : Kept) (f : Frame) (ys l : List ℕ) → after_line k ((f, pick (is_call f) ys []), l) ≡ after_line k ((f, ys), l)
unfolding after_line
line_idle k f ys l = rw (judged_idle k.0 f ys)

-- the bytes of a line that is no frame
unread_idle : (k : Kept) (xs a b : List ℕ) → after_line k ((Frame.Refused Status.NoHex, xs), a) ≡ after_line k ((Frame.Refused Status.NoHex, xs), b)
unfolding after_line judged framed pick noted_on
unread_idle k xs a b = refl

-- so a long line may be cut
pub line_cut : (k : Kept) (l : List ℕ) → after_line k (reading l, take 133 l) ≡ after_line k (reading l, l)
line_cut k l =
    either (leb (length l) 133)
    (λ y. ap (λ (q : List ℕ). after_line k (reading l, q)) (take_all 133 l (leb-true (length l) 133 y)))
    (λ n. let h : 133 < length l = leb-false (length l) 133 n in rw (long_reading l (omega arith)) (unread_idle k [] (take 133 l) l))

pub meaning_blind : Blind meaning
unfolding meaning
meaning_blind l = rw (reading_blind l, take-take 133 133 l (omega arith))
