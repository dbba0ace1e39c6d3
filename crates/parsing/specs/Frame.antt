-- A line as a frame: what is asked of a line by itself, statuses 71 and 72.
use Rattle.std.specs.Prelude.{◌≡◌, Bool, false, not, ◌||◌, ℕ, ◌*◌, ◌%◌, ◌≤◌, ◌<◌, ltb, eqb, length}
use Rattle.std.proofs.Math.Path.{refl, ap}
use Rattle.std.proofs.Common.{sym, ◌∙◌, arith}
use Rattle.std.proofs.Math.Bool.{true}
use mathlib.Core.List.{List}
use borrow.Author.Tests.{lt-ltb, le-ltb, eq-eqb, ne_eqb, eqb-true, eqb-false}
use Rattle.rules.specs.Choice.{pick, pick_yes, pick_no, picked, passed, by, either, yes_or_no, first_or, second_or, neither, not_true, not_false}
use Rattle.tools.specs.Search.{all, all_at, all_if}
use Rattle.hex_digits.specs.Hex.{digit_at, all_digits, number, numbers}
use Rattle.hex_read.specs.Many.{eight}
use Rattle.parsing.specs.declared.Status.{Status}
use Rattle.parsing.specs.declared.Status.TheVariants.{Accepted, NoHex, Unknown, Misplaced, OutOfRange, Clash}
use Rattle.parsing.specs.declared.Frame.{Frame}
use Rattle.parsing.specs.declared.Frame.TheVariants.{Site, Entry, Name, Call, Arrival, Refused}

-- the byte of a status
abbrev pub status_byte : Status → ℕ
status_byte Accepted = 0x00
status_byte NoHex = 0x71
status_byte Unknown = 0x72
status_byte Misplaced = 0x73
status_byte OutOfRange = 0x74
status_byte Clash = 0x75

-- no bytes can be read from the line: none are there, half of one is left over, a sign is no digit, or there are too many
unfoldable pub no_hex : List ℕ → Bool
no_hex l = eqb (length l) 0 || (not (eqb (length l % 2) 0) || (not (all_digits l) || ltb 132 (length l)))

-- what each frame holds
abbrev pub site_in : List ℕ → Frame
site_in l = Site (number l 1 8) (number l 9 2) (number l 11 1)

abbrev pub entry_in : List ℕ → Frame
entry_in l = Entry (number l 1 1) (number l 2 1) (number l 3 1) (number l 4 1)

abbrev pub name_in : List ℕ → Frame
name_in l = Name (number l 1 2) (number l 3 2) (number l 5 1)

abbrev pub call_in : List ℕ → Frame
call_in l = Call (number l 1 1)

abbrev pub arrival_in : List ℕ → Frame
arrival_in l = Arrival (number l 1 1)

-- a frame of so many bytes, if the line has them
unfoldable pub sized : List ℕ → ℕ → Frame → Frame
sized l bytes f = pick (eqb (length l) (bytes * 2)) f (Refused Unknown)

-- a line of digits, by its first byte and the length that goes with it
unfoldable pub kind : List ℕ → ℕ → Frame
kind l first =
    pick (eqb first 0x11) (sized l 12 (site_in l))
    (pick (eqb first 0x10) (sized l 5 (entry_in l))
    (pick (eqb first 0x12) (sized l 6 (name_in l))
    (pick (eqb first 0x20) (sized l 66 (call_in l))
    (pick (eqb first 0x21) (sized l 2 (arrival_in l))
    (Refused Unknown)))))

abbrev pub known : List ℕ → Frame
known l = kind l (number l 0 1)

unfoldable pub frame_of : List ℕ → Frame
frame_of l = pick (no_hex l) (Refused NoHex) (known l)

-- x0 to x7 of a call
abbrev pub numbers_of : List ℕ → List ℕ
numbers_of l = numbers l 2 8

abbrev pub is_call : Frame → Bool
is_call (Site base pages cores) = false
is_call (Entry first last kind handler) = false
is_call (Name first count owner) = false
is_call (Call core) = true
is_call (Arrival core) = false
is_call (Refused s) = false

-- the frame, and the eight numbers lent for it: a call's own, else as they stood
unfoldable pub parsed : List ℕ → List ℕ → Frame × List ℕ
parsed l xs = (frame_of l, pick (is_call (frame_of l)) (numbers_of l) xs)

-- ---- each refusal with 71, and the line that passes
module _ (l : List ℕ) where
  no_hex_lem : no_hex l ≡ true → Refused NoHex ≡ frame_of l
  unfolding frame_of
  no_hex_lem e = picked _ _ _ _ e refl

  pub empty_line : length l ≡ 0 → Refused NoHex ≡ frame_of l
  unfolding no_hex
  empty_line h = no_hex_lem (first_or _ _ (eq-eqb _ _ h))

  pub odd_line : (length l % 2 ≡ 0 → ⊥) → Refused NoHex ≡ frame_of l
  unfolding no_hex
  odd_line h = no_hex_lem (second_or (eqb (length l) 0) _ (first_or _ _ (not_true _ (ne_eqb _ _ h))))

  pub no_digits : all_digits l ≡ false → Refused NoHex ≡ frame_of l
  unfolding no_hex
  no_digits h = no_hex_lem (second_or (eqb (length l) 0) _ (second_or (not (eqb (length l % 2) 0)) _ (first_or _ _ (not_true _ h))))

  pub long_line : 132 < length l → Refused NoHex ≡ frame_of l
  unfolding no_hex
  long_line h = no_hex_lem (second_or (eqb (length l) 0) _ (second_or (not (eqb (length l % 2) 0)) _ (second_or (not (all_digits l)) _ (lt-ltb _ _ h))))

  pub hex_line : (r : Frame) → (length l ≡ 0 → ⊥) → length l ≤ 132 → length l % 2 ≡ 0 → all_digits l ≡ true → r ≡ known l → r ≡ frame_of l
  unfolding frame_of no_hex
  hex_line r n h o d e = passed _ _ _ _ (neither _ _ (ne_eqb _ _ n) (neither _ _ (not_false _ (eq-eqb _ _ o)) (neither _ _ (not_false _ d) (le-ltb _ _ h)))) e

-- ---- each frame by its first byte and length, and none of them
module _ (l : List ℕ) (bytes : ℕ) (f : Frame) where
  pub sized_yes : (r : Frame) → length l ≡ bytes * 2 → r ≡ f → r ≡ sized l bytes f
  unfolding sized
  sized_yes r h e = picked _ _ _ _ (eq-eqb _ _ h) e

  pub sized_no : (length l ≡ bytes * 2 → ⊥) → Refused Unknown ≡ sized l bytes f
  unfolding sized
  sized_no h = passed _ _ _ _ (ne_eqb _ _ h) refl

module _ (l : List ℕ) (first : ℕ) (b : first ≡ number l 0 1) where
  -- a row of the table
  pub row : (k bytes : ℕ) (f g r : Frame) → first ≡ k → g ≡ f → r ≡ sized l bytes g → sized l bytes f ≡ kind l k → r ≡ known l
  row k bytes f g r e h i j = i ∙ rw (h, ← b, e) j

  pub no_row : (first ≡ 0x11 → ⊥) → (first ≡ 0x10 → ⊥) → (first ≡ 0x12 → ⊥) → (first ≡ 0x20 → ⊥) → (first ≡ 0x21 → ⊥) → Refused Unknown ≡ known l
  unfolding kind pick
  no_row m n o p q = rw (← b, ne_eqb _ _ m, ne_eqb _ _ n, ne_eqb _ _ o, ne_eqb _ _ p, ne_eqb _ _ q)

-- ---- a call
module _ (l : List ℕ) where
  no_call_pick : (b : Bool) (f g : Frame) → is_call f ≡ false → is_call g ≡ false → is_call (pick b f g) ≡ false
  no_call_pick b f g p q = by (λ (t : Bool). is_call (pick t f g) ≡ false) b (λ e. rw (pick_yes true f g) p) (λ e. rw (pick_no false f g) q)

  no_call_sized : (bytes : ℕ) (f : Frame) → is_call f ≡ false → is_call (sized l bytes f) ≡ false
  unfolding sized
  no_call_sized bytes f p = no_call_pick _ _ _ p refl

  pub no_call : (length l ≡ 132 → ⊥) → is_call (frame_of l) ≡ false
  unfolding frame_of kind
  no_call n =
      no_call_pick _ _ _ refl (no_call_pick _ _ _ (no_call_sized 12 (site_in l) refl) (no_call_pick _ _ _ (no_call_sized 5 (entry_in l) refl) (no_call_pick _ _ _ (no_call_sized 6 (name_in l) refl)
      (no_call_pick _ _ _ (ap is_call (sym (sized_no l 66 (call_in l) n))) (no_call_pick _ _ _ (no_call_sized 2 (arrival_in l) refl) refl)))))

  -- a call has 132 digits
  module _ (c : is_call (frame_of l) ≡ true) where
    pub call_digits : all_digits l ≡ true
    call_digits = either (all_digits l) (λ y. y) (λ n. absurd (yes_or_no (is_call (frame_of l)) c (ap is_call (sym (no_digits l n)))))

    pub call_size : length l ≡ 132
    call_size = either (eqb (length l) 132) (λ y. eqb-true _ _ y) (λ n. absurd (yes_or_no (is_call (frame_of l)) c (no_call (eqb-false _ _ n))))

    -- all but the first four are those of its numbers
    pub call_rest : all (digit_at l) 4 128 ≡ true
    unfolding all_digits
    call_rest = all_if (digit_at l) 4 128 (λ k h g. all_at (digit_at l) 0 (length l) k call_digits (omega arith) (omega (arith, call_size)))

-- ---- the frame and the numbers
module _ (l xs : List ℕ) (f : Frame) (e : f ≡ frame_of l) where
  -- a frame that is no call leaves the numbers as they stood
  pub other_parsed : is_call f ≡ false → (f, xs) ≡ parsed l xs
  unfolding parsed
  other_parsed n = rw (← e, n, pick_no false)

  pub call_parsed : (ys : List ℕ) → is_call f ≡ true → ys ≡ numbers_of l → (f, ys) ≡ parsed l xs
  unfolding parsed
  call_parsed ys c y = rw (← e, c, pick_yes true, y)

pub parsed_numbers : (l xs ys : List ℕ) (f : Frame) (b d : Bool) → f ≡ frame_of l → b ≡ is_call f → b ≡ true → (d, ys) ≡ eight l 2 xs → (f, ys) ≡ parsed l xs
unfolding eight
parsed_numbers l xs ys f b d e g c h =
    let y : is_call f ≡ true = sym g ∙ c in
    let k : ◌≡◌ {A = Bool × List ℕ} (d, ys) (true, numbers l 2 8) = h ∙ pick_yes _ _ _ (call_rest l (rw (← e) y)) in
    call_parsed l xs f e ys y (ap (λ (p : Bool × List ℕ). p.1) k)

pub parsed_other : (l xs : List ℕ) (f : Frame) (b : Bool) → f ≡ frame_of l → b ≡ is_call f → b ≡ false → (f, xs) ≡ parsed l xs
parsed_other l xs f b e g c = other_parsed l xs f e (sym g ∙ c)

-- what was parsed, taken apart
module _ (l xs ys : List ℕ) (f : Frame) (p : (f, ys) ≡ parsed l xs) where
  pub parsed_frame : f ≡ frame_of l
  unfolding parsed
  parsed_frame = ap (λ (q : Frame × List ℕ). q.0) p

  pub parsed_call : is_call f ≡ true → ys ≡ numbers_of l
  unfolding parsed
  parsed_call e = ap (λ (q : Frame × List ℕ). q.1) p ∙ rw (← parsed_frame, e, pick_yes true)

  -- a call is a line of digits
  pub parsed_digits : is_call f ≡ true → all_digits l ≡ true
  parsed_digits e = call_digits l (ap is_call (sym parsed_frame) ∙ e)
