-- What a verdict says of its line: which lines can be kept at all, what the frame step answers, and what it leaves.
use Rattle.std.specs.Prelude.{◌≡◌, refl, true, false, List, ℕ, ◌*◌, ◌≤◌, eqb}
use Rattle.std.proofs.Common.{sym, ap, ◌∙◌, arith, eqb-true}
use Rattle.std.proofs.Math.ListN.{length}
use Rattle.rules.specs.Choice.{pick, chosen, either, yes_or_no}
use Rattle.hex_digits.specs.Hex.{all_digits, number}
use Rattle.parsing.specs.Frame.{no_hex, site_in, entry_in, name_in, call_in, arrival_in, sized, kind, frame_of, parsed, status_byte, no_digits}
use Rattle.parsing.specs.declared.Status.{Status}
use Rattle.parsing.specs.declared.Status.TheVariants as Status
use Rattle.parsing.specs.declared.Frame.{Frame}
use Rattle.parsing.specs.declared.Frame.TheVariants as Frame
use Rattle.lines.specs.Lines.{Unbroken, digits_no_newline}
use Rattle.lines.specs.Input.{reading}
use Rattle.showing.specs.declared.Reply.{Reply}
use Rattle.showing.specs.declared.Reply.TheVariants as Reply
use Rattle.frames.specs.Frames.{Machine, framed}
use Rattle.frames.specs.Stays.{refused_same}
use Rattle.mending.specs.Judged.{later, status_of, judged, judged_line}

-- ---- lines that can be kept: from 10 to 24 bytes, with no newline
pub record Keeps (l : List ℕ) : Type 0 where
  pub low : 10 ≤ length l
  pub high : length l ≤ 24
  pub unbroken : Unbroken l

-- a frame by the length of its line
module _ (l : List ℕ) (P : Frame → Type 0) (no_hex_lem : P (Frame.Refused Status.NoHex)) (unknown : P (Frame.Refused Status.Unknown))
    (site : length l ≡ 24 → P (site_in l)) (entry : length l ≡ 10 → P (entry_in l)) (name : length l ≡ 12 → P (name_in l)) (call : P (call_in l)) (arrival : P (arrival_in l)) where
  by_size : (bytes : ℕ) (f : Frame) → (length l ≡ bytes * 2 → P f) → P (sized l bytes f)
  unfolding sized
  by_size bytes f some = chosen P (eqb (length l) (bytes * 2)) f _ (λ y. some (eqb-true _ _ y)) (λ n. unknown)

  by_kind : (first : ℕ) → P (kind l first)
  unfolding kind
  by_kind first =
      chosen P (eqb first 0x11) _ _ (λ y. by_size 12 (site_in l) site)
      (λ a. chosen P (eqb first 0x10) _ _ (λ y. by_size 5 (entry_in l) entry)
      (λ b. chosen P (eqb first 0x12) _ _ (λ y. by_size 6 (name_in l) name)
      (λ c. chosen P (eqb first 0x20) _ _ (λ y. by_size 66 (call_in l) (λ h. call))
      (λ d. chosen P (eqb first 0x21) _ _ (λ y. by_size 2 (arrival_in l) (λ h. arrival)) (λ e. unknown)))))

  by_frame : P (frame_of l)
  unfolding frame_of
  by_frame = chosen P (no_hex l) _ _ (λ y. no_hex_lem) (λ n. by_kind _)

-- no line that cannot be read, no call and no arrival has status 0
refused_status : (m : Machine) (why : Status) (xs : List ℕ) → (judged m (Frame.Refused why) xs).1 ≡ status_byte why
unfolding judged framed pick
refused_status m why xs = refl

call_status : (m : Machine) (core : ℕ) (xs : List ℕ) → (judged m (Frame.Call core) xs).1 ≡ 0x73
unfolding judged pick
call_status m core xs = refl

arrival_status : (m : Machine) (core : ℕ) (xs : List ℕ) → (judged m (Frame.Arrival core) xs).1 ≡ 0x73
unfolding judged pick
arrival_status m core xs = refl

module _ (m : Machine) (l : List ℕ) (kept : (judged_line m l).1 ≡ 0) where
  abbrev Sized : Frame → Type 0
  Sized f = (xs : List ℕ) → (judged m f xs).1 ≡ 0 → (10 ≤ length l) × (length l ≤ 24)

  sizes : Sized (frame_of l)
  sizes =
      by_frame l Sized
      (λ xs e. let z = refused_status m Status.NoHex xs in absurd (omega arith))
      (λ xs e. let z = refused_status m Status.Unknown xs in absurd (omega arith))
      (λ h xs e. (omega arith, omega arith)) (λ h xs e. (omega arith, omega arith)) (λ h xs e. (omega arith, omega arith))
      (λ xs e. absurd (omega (arith, call_status m (number l 1 1) xs))) (λ xs e. absurd (omega (arith, arrival_status m (number l 1 1) xs)))

  unread : (f : Frame) → Frame.Refused Status.NoHex ≡ f → (xs : List ℕ) → (judged m f xs).1 ≡ 0 → ⊥
  unread f r xs e =
      let z : (judged m (Frame.Refused Status.NoHex) xs).1 ≡ 0 = rw (← r) at e in
      omega (arith, refused_status m Status.NoHex xs)

  digits : all_digits l ≡ true
  unfolding parsed
  digits = either (all_digits l) (λ y. y) (λ n. absurd (unread (frame_of l) (no_digits l n) (reading l).1 kept))

  pub keeps : Keeps l
  unfolding parsed
  keeps =
      let s : (10 ≤ length l) × (length l ≤ 24) = sizes (reading l).1 kept in
      record { low = s.0; high = s.1; unbroken = λ k h e. digits_no_newline l k digits h e }

-- ---- what the frame step answers
-- a frame of set-up, or no frame, is told a status
pub record Tells (m : Machine) (f : Frame) (xs : List ℕ) : Type 0 where
  pub why : Status
  pub is : (framed m f xs).1 ≡ Reply.Told why

pub tells : (m : Machine) (f : Frame) (xs : List ℕ) → later f ≡ false → Tells m f xs
unfolding framed
tells m (Frame.Site base pages cores) xs e = record { why = _; is = refl }
tells m (Frame.Entry first last kind number) xs e = record { why = _; is = refl }
tells m (Frame.Name first count to) xs e = record { why = _; is = refl }
tells m (Frame.Call core) xs e = absurd (yes_or_no true refl e)
tells m (Frame.Arrival core) xs e = absurd (yes_or_no true refl e)
tells m (Frame.Refused why) xs e = record { why = why; is = refl }

-- a status is told by its byte
zero_accepts : (s : Status) → status_byte s ≡ 0 → s ≡ Status.Accepted
zero_accepts Status.Accepted e = refl
zero_accepts Status.NoHex e = absurd (omega arith)
zero_accepts Status.Unknown e = absurd (omega arith)
zero_accepts Status.Misplaced e = absurd (omega arith)
zero_accepts Status.OutOfRange e = absurd (omega arith)
zero_accepts Status.Clash e = absurd (omega arith)

module _ (m : Machine) (f : Frame) (xs : List ℕ) where
  -- the verdict on a frame that is no call and no arrival is its answer
  pub judged_other : later f ≡ false → judged m f xs ≡ ((framed m f xs).0, status_of (framed m f xs).1)
  unfolding judged pick
  judged_other e = rw e

  judged_later : later f ≡ true → judged m f xs ≡ (m, 0x73)
  unfolding judged pick
  judged_later e = rw e

  -- a kept frame is accepted, and does what it does
  pub record Accepts : Type 0 where
    pub told : (framed m f xs).1 ≡ Reply.Told Status.Accepted
    pub leaves : (judged m f xs).0 ≡ (framed m f xs).0

  pub accepts : (judged m f xs).1 ≡ 0 → Accepts
  accepts e =
      either (later f)
      (λ y. let z : (judged m f xs).1 ≡ 0x73 = ap (λ (q : Machine × ℕ). q.1) (judged_later y) in absurd (omega arith))
      (λ n.
      let t = tells m f xs n in
      let o = judged_other n in
      let z : (judged m f xs).1 ≡ status_byte t.why = ap (λ (q : Machine × ℕ). q.1) o ∙ ap status_of t.is in
      record { told = t.is ∙ ap Reply.Told (zero_accepts t.why (sym z ∙ e)); leaves = ap (λ (q : Machine × ℕ). q.0) o })

  -- a dropped one leaves the machine as it was
  pub drops : ((judged m f xs).1 ≡ 0 → ⊥) → (judged m f xs).0 ≡ m
  drops d =
      either (later f) (λ y. ap (λ (q : Machine × ℕ). q.0) (judged_later y))
      (λ n.
      let t = tells m f xs n in
      let o = judged_other n in
      let z : (judged m f xs).1 ≡ status_byte t.why = ap (λ (q : Machine × ℕ). q.1) o ∙ ap status_of t.is in
      ap (λ (q : Machine × ℕ). q.0) o ∙ refused_same m f xs t.why t.is (λ a. d (z ∙ ap status_byte a)))
