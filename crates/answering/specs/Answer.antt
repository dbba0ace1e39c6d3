-- One frame, and the text of its answer put at a place.
use Rattle.std.specs.Prelude.{◌≡◌, refl, true, false, List, [], ℕ, ◌+◌, ◌≤◌, leb, length}
use Rattle.std.proofs.Common.{ap, arith, leb-true}
use Rattle.rules.specs.Choice.{pick, chosen, yes_or_no}
use Rattle.tools.specs.Laid.{put, length_laid}
use Rattle.registers.specs.declared.Shown.{Shown}
use Rattle.parsing.specs.Frame.{is_call}
use Rattle.parsing.specs.declared.Frame.{Frame}
use Rattle.parsing.specs.declared.Frame.TheVariants as Frame
use Rattle.parsing.specs.declared.Status.{Status}
use Rattle.text.specs.Text.{status_text, call_text, longest, length_status, length_call}
use Rattle.showing.specs.declared.Reply.{Reply}
use Rattle.showing.specs.declared.Reply.TheVariants.{Told, Called}
use Rattle.frames.specs.Frames.{Machine, framed}

-- the text of an answer
abbrev pub text_of : Reply → List ℕ
text_of (Told s) = status_text s
text_of (Called core world shown) = call_text core world shown.x0 shown.x1 shown.x2 shown.x3

-- the machine after a frame, and its answer put at a place
abbrev pub answered : Machine → Frame → List ℕ → List ℕ → ℕ → Machine × (ℕ × List ℕ)
answered m f xs out at = ((framed m f xs).0, put out at (text_of (framed m f xs).1))

-- ---- what it depends on, and how long it is
-- a frame that is no call has no use for the numbers beside it
pub numbers_idle : (m : Machine) (f : Frame) (ys : List ℕ) → framed m f (pick (is_call f) ys []) ≡ framed m f ys
unfolding framed pick
numbers_idle m (Frame.Site base pages cores) ys = refl
numbers_idle m (Frame.Entry first last kind number) ys = refl
numbers_idle m (Frame.Name first count to) ys = refl
numbers_idle m (Frame.Call core) ys = refl
numbers_idle m (Frame.Arrival core) ys = refl
numbers_idle m (Frame.Refused why) ys = refl

-- no answer is longer than a call's
pub text_short : (r : Reply) → length (text_of r) ≤ longest
text_short (Told s) = let e = length_status s in omega arith
text_short (Called core world shown) = let e = length_call core world shown.x0 shown.x1 shown.x2 shown.x3 in omega arith

-- only a call's has more than 5
pub text_told : (m : Machine) (f : Frame) (xs : List ℕ) → is_call f ≡ false → length (text_of (framed m f xs).1) ≡ 5
unfolding framed
text_told m (Frame.Site base pages count) xs e = length_status _
text_told m (Frame.Entry first last kind number) xs e = length_status _
text_told m (Frame.Name first count to) xs e = length_status _
text_told m (Frame.Call core) xs e = absurd (yes_or_no true refl e)
text_told m (Frame.Arrival core) xs e = length_status _
text_told m (Frame.Refused why) xs e = length_status why

-- what is put ends inside
pub put_inside : (o : List ℕ) (at : ℕ) (text : List ℕ) (n : ℕ) (o' : List ℕ) → (n, o') ≡ put o at text → at ≤ length o → (n ≤ length o') × (length o' ≡ length o)
unfolding put
put_inside o at text n o' e h =
    rw (ap (λ (q : ℕ × List ℕ). q.0) e, ap (λ (q : ℕ × List ℕ). q.1) e)
    (chosen (λ (q : ℕ × List ℕ). (q.0 ≤ length q.1) × (length q.1 ≡ length o)) (leb (at + length text) (length o)) _ _
    (λ y. let l = length_laid o at text in let f = leb-true (at + length text) (length o) y in (omega arith, l)) (λ y. (h, refl)))

-- ---- how the code's branches meet these
module _ (out : List ℕ) (at : ℕ) (r : Reply) (p : ℕ × List ℕ) where
  pub puts_told : (s : Status) → r ≡ Told s → p ≡ put out at (status_text s) → p ≡ put out at (text_of r)
  puts_told s e h = rw e h

  pub puts_call : (core world : ℕ) (shown : Shown) → r ≡ Called core world shown → p ≡ put out at (call_text core world shown.x0 shown.x1 shown.x2 shown.x3) → p ≡ put out at (text_of r)
  puts_call core world shown e h = rw e h

pub ruleset puts = (puts_told, puts_call)

pub answers_so : (m m' : Machine) (f : Frame) (xs out out' : List ℕ) (at n : ℕ) (r : Reply) → (m', r) ≡ framed m f xs → (n, out') ≡ put out at (text_of r) → (m', (n, out')) ≡ answered m f xs out at
answers_so m m' f xs out out' at n r e h =
    let a : m' ≡ (framed m f xs).0 = ap (λ (q : Machine × Reply). q.0) e in
    let b : r ≡ (framed m f xs).1 = ap (λ (q : Machine × Reply). q.1) e in
    rw (← a, ← b, ← h)
