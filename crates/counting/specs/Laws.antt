-- How the code's branches meet the definitions of Counted: one law for each outcome. And what is kept after an input.
use Rattle.std.proofs.Math.Path.{◌≡◌, sym, ap}
use Rattle.std.specs.Prelude.{refl, Bool, true, false, eqb, length, get_or, Err, None, Ok, Option, Result, Some}
use Rattle.std.proofs.Common.{◌∙◌, arith}
use mathlib.Core.List.{List, [], ◌∷◌, ◌++◌}
use Prim.Native.Nat.{ℕ, ◌<◌}
use borrow.Author.Tests.{eq-eqb, ne_eqb}
use Rattle.rules.specs.Choice.{pick, picked, passed, left_false, right_false}
use Rattle.identifiers.specs.Identifier.{identifier_of, parts}
use Rattle.identifiers.specs.declared.Identifier.{Identifier}
use Rattle.identifiers.specs.declared.Parts.{Parts}
use Rattle.judgements.specs.Judge.{called_by}
use Rattle.answers.specs.Answers.{told}
use Rattle.calls.specs.Step.{State, state}
use Rattle.calls.specs.declared.Made.{Made}
use Rattle.parsing.specs.Frame.{is_call}
use Rattle.parsing.specs.declared.Status.{Status}
use Rattle.parsing.specs.declared.Frame.{Frame}
use Rattle.parsing.specs.declared.Frame.TheVariants as Frame
use Rattle.lines.specs.Meant.{Blind, blind_by}
use Rattle.lines.specs.Input.{reading_blind}
use Rattle.calling.specs.Calling.{site_of, trying, calling}
use Rattle.showing.specs.declared.Reply.{Reply}
use Rattle.frames.specs.Frames.{Machine, machine, first, framed}
use Rattle.inputs.specs.Folds.{folded}
use Rattle.tallies.specs.Tally.{noted}
use Rattle.counting.specs.Counted.{apart, meaning, Line, Counted, counted_try, counted_of, counted_in, Kept, noted_all, after_call, after_frame, after_line}

-- ---- a line that stands between two runs
module _ (l : List ℕ) where
  pub apart_length : (length l ≡ 2 → ⊥) → false ≡ apart l
  unfolding apart
  apart_length h = sym (left_false _ _ (ne_eqb (length l) 2 h))

  pub apart_first : (get_or l 0 0 ≡ 48 → ⊥) → false ≡ apart l
  unfolding apart
  apart_first h = sym (right_false (eqb (length l) 2) _ (left_false _ _ (ne_eqb (get_or l 0 0) 48 h)))

  pub apart_second : length l ≡ 2 → get_or l 0 0 ≡ 48 → eqb (get_or l 1 0) 48 ≡ apart l
  unfolding apart
  apart_second h g = rw (eq-eqb (length l) 2 h, eq-eqb (get_or l 0 0) 48 g)

pub ruleset aparts = (apart_length, apart_first, apart_second)

long_apart : (l : List ℕ) → 132 < length l → apart l ≡ false
long_apart l h = sym (apart_length l (λ z. omega arith))

pub meaning_blind : Blind meaning
unfolding meaning
meaning_blind l = rw (blind_by apart false long_apart l, reading_blind l)

-- ---- whose call a frame is
abbrev pub whose_of : Frame → Option ℕ
whose_of (Frame.Site base pages cores) = None
whose_of (Frame.Entry first last kind number) = None
whose_of (Frame.Name first count to) = None
whose_of (Frame.Call core) = Some core
whose_of (Frame.Arrival core) = None
whose_of (Frame.Refused why) = None

pub whose_call : (f : Frame) (core : ℕ) → f ≡ Frame.Call core → Some core ≡ whose_of f
whose_call f core e = rw e

pub whose_refused : (f : Frame) (why : Status) → f ≡ Frame.Refused why → None ≡ whose_of f
whose_refused f why e = rw e

core_of : (f : Frame) (core : ℕ) → whose_of f ≡ Some core → f ≡ Frame.Call core
core_of (Frame.Site base pages cores) core e = cc
core_of (Frame.Entry first last kind number) core e = cc
core_of (Frame.Name first count to) core e = cc
core_of (Frame.Call c) core e = let z : c ≡ core = cc in rw z
core_of (Frame.Arrival c) core e = cc
core_of (Frame.Refused why) core e = cc

nobody_counts : (f : Frame) → whose_of f ≡ None → (m : Machine) (xs : List ℕ) → counted_of m f xs ≡ []
nobody_counts (Frame.Site base pages cores) e m xs = refl
nobody_counts (Frame.Entry first last kind number) e m xs = refl
nobody_counts (Frame.Name first count to) e m xs = refl
nobody_counts (Frame.Call c) e m xs = cc
nobody_counts (Frame.Arrival c) e m xs = refl
nobody_counts (Frame.Refused why) e m xs = refl

-- ---- a call, noted where it is accepted
pub parts_called : (xs : List ℕ) (i : Identifier) (p : Parts) → i ≡ identifier_of (get_or xs 0 0) → p ≡ parts i → p ≡ called_by xs
parts_called xs i p e h = h ∙ ap parts e

module _ (t xs : List ℕ) (tried : Result Made Status) where
  pub try_refused : (why : Status) → tried ≡ Err why → t ≡ noted_all t (counted_try xs tried)
  unfolding noted_all
  try_refused why e = rw e

  pub try_noted : (made : Made) (n : ℕ) (p : Parts) (t' : List ℕ) → tried ≡ Ok made → p ≡ called_by xs → n ≡ told p made.answer → t' ≡ noted t made.caller n → t' ≡ noted_all t (counted_try xs tried)
  unfolding noted_all
  try_noted made n p t' e d g h = rw (e, ← d, ← g) h

pub ruleset tries_noted = (try_refused, try_noted)

pub call_taken : (s xs t t' s' : List ℕ) (w w' : State) (core : ℕ) (tried : Result Made Status) → ((s', w'), tried) ≡ trying s w core xs → t' ≡ noted_all t (counted_try xs tried) → ((s', w'), t') ≡ after_call s w t core xs
unfolding after_call
call_taken s xs t t' s' w w' core tried e h = rw (← e, h)

-- ---- a frame
module _ (f : Frame) (w : Option ℕ) (is : w ≡ whose_of f) (c xs : List ℕ) where
  pub frame_other : (m m' : Machine) (r : Reply) → w ≡ None → (m', r) ≡ framed m f xs → (m', c) ≡ after_frame (m, c) f xs
  unfolding after_frame noted_all
  frame_other m m' r e h = rw (← h, nobody_counts f (sym is ∙ e) m xs)

  pub frame_call : (s n l o v p t k : List ℕ) (core : ℕ) → w ≡ Some core → (s' c' o' v' p' t' k' : List ℕ)
      → ((s', state (site_of s) l o' v' p' t' k'), c') ≡ after_call s (state (site_of s) l o v p t k) c core xs → (machine s' n l o' v' p' t' k', c') ≡ after_frame (machine s n l o v p t k, c) f xs
  unfolding after_call after_frame framed calling
  frame_call s n l o v p t k core e s' c' o' v' p' t' k' h =
      let z : f ≡ Frame.Call core = core_of f core (sym is ∙ e) in
      let a : (s', state (site_of s) l o' v' p' t' k') ≡ (trying s (state (site_of s) l o v p t k) core xs).0 = ap (λ (q : (List ℕ × State) × List ℕ). q.0) h in
      let b : c' ≡ noted_all c (counted_try xs (trying s (state (site_of s) l o v p t k) core xs).1) = ap (λ (q : (List ℕ × State) × List ℕ). q.1) h in
      rw (z, ← a, b)

  pub frame_is_call : (k k' : Kept) (core : ℕ) → w ≡ Some core → k' ≡ after_frame k (Frame.Call core) xs → k' ≡ after_frame k f xs
  frame_is_call k k' core e h = rw (core_of f core (sym is ∙ e)) h

pub ruleset frames_taken = (frame_other, frame_is_call)

-- a call on the whole machine
pub call_counted : (m : Machine) (c xs : List ℕ) (core : ℕ) (s' o' v' p' t' k' c' : List ℕ) (tried : Result Made Status)
    → ((s', state (site_of m.setup) m.ledger o' v' p' t' k'), tried) ≡ trying m.setup (state (site_of m.setup) m.ledger m.owners m.saved m.powers m.turns m.lists) core xs
    → c' ≡ noted_all c (counted_try xs tried) → (machine s' m.named m.ledger o' v' p' t' k', c') ≡ after_frame (m, c) (Frame.Call core) xs
call_counted m c xs core s' o' v' p' t' k' c' tried e h =
    let w = state (site_of m.setup) m.ledger m.owners m.saved m.powers m.turns m.lists in
    frame_call (Frame.Call core) (Some core) refl c xs m.setup m.named m.ledger m.owners m.saved m.powers m.turns m.lists core refl s' c' o' v' p' t' k'
    (call_taken m.setup xs c c' s' w (state (site_of m.setup) m.ledger o' v' p' t' k') core tried e h)

-- ---- a line
module _ (k k' : Kept) (between : Bool) (f : Frame) (xs : List ℕ) where
  pub line_between : between ≡ true → k'.0 ≡ first → k'.1 ≡ k.1 → k' ≡ after_line k (between, (f, xs))
  unfolding after_line
  line_between e h g = picked _ _ _ _ e (let z : ◌≡◌ {A = Kept} (k'.0, k'.1) (first, k.1) = rw (h, g) in z)

  pub line_frame : between ≡ false → k' ≡ after_frame k f xs → k' ≡ after_line k (between, (f, xs))
  unfolding after_line
  line_frame e h = passed _ _ _ _ e h

pub ruleset lines_taken = (line_between, line_frame)

-- the numbers beside a frame that is no call are not looked at
frame_idle : (k : Kept) (f : Frame) (ys : List ℕ) → after_frame k f (pick (is_call f) ys []) ≡ after_frame k f ys
unfolding after_frame framed pick
frame_idle k (Frame.Site base pages cores) ys = refl
frame_idle k (Frame.Entry first last kind number) ys = refl
frame_idle k (Frame.Name first count to) ys = refl
frame_idle k (Frame.Call core) ys = refl
frame_idle k (Frame.Arrival core) ys = refl
frame_idle k (Frame.Refused why) ys = refl

pub line_idle : (k : Kept) (b : Bool) (f : Frame) (ys : List ℕ) → after_line k (b, (f, pick (is_call f) ys [])) ≡ after_line k (b, (f, ys))
unfolding after_line
line_idle k b f ys = rw (frame_idle k f ys)

-- ---- what is kept after an input: the calls that are counted of it, noted
noted_two : (t : List ℕ) (cs ds : List Counted) → noted_all t (cs ++ ds) ≡ noted_all (noted_all t cs) ds
unfolding noted_all
noted_two t [] ds = refl
noted_two t (c ∷ cs) ds = noted_two (noted t c.0 c.1) cs ds

pub kept_noted : (ls : List Line) (m : Machine) (t : List ℕ) → (folded after_line (m, t) ls).1 ≡ noted_all t (counted_in m ls)
unfolding folded after_line after_frame counted_in noted_all pick
kept_noted [] m t = refl
kept_noted ((true, l) ∷ ls) m t = kept_noted ls first t
kept_noted ((false, l) ∷ ls) m t =
    kept_noted ls (framed m l.0 l.1).0 (noted_all t (counted_of m l.0 l.1))
    ∙ sym (noted_two t (counted_of m l.0 l.1) (counted_in (framed m l.0 l.1).0 ls))
