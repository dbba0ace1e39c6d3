-- The sentence of a line is built piece by piece behind its number: what each piece keeps, the whole keeps. It is said of two
-- sentences at once, of two lines or of one, and of how many pieces they have.
use Rattle.std.specs.Prelude.{◌≡◌, Bool, true, false, ◌&&◌, List, [], ◌∷◌, ltb, leb, eqb, get_or}
use Rattle.std.proofs.Math.Path.{refl}
use Prim.Native.Nat.{ℕ, zero, suc, ◌+◌, ◌≤◌}
use native.Mathlib.Omega.{arith}
use Rattle.std.proofs.Common.{leb-true}
use Rattle.rules.specs.Choice.{pick, either, chosen, chosen_two, left_true, right_true, yes_or_no}
use Rattle.tools.specs.Search.{first}
use Rattle.judgements.specs.declared.Answer.{Answer}
use Rattle.judgements.specs.declared.Answer.TheVariants as Answer
use Rattle.parsing.specs.declared.Frame.{Frame}
use Rattle.parsing.specs.declared.Frame.TheVariants as Frame
use Rattle.outcomes.specs.declared.Came.{Came}
use Rattle.outcomes.specs.declared.Came.TheVariants.{Told, Called}
use Rattle.words.specs.Words as w
use Rattle.phrases.specs.Sentence.{blank, ◌▹◌}
use Rattle.phrases.specs.declared.Piece.{Piece}
use Rattle.phrases.specs.declared.Piece.TheVariants.{Word, Number, Right, Line, Hex, Value, Column}
use Rattle.phrases.specs.declared.Sentence.{Sentence}
use Rattle.asking.specs.Names.{named_from, named, counted}
use Rattle.asking.specs.Forms.{forms, row_at, form, register, valued, slot, slots, asked}
use Rattle.asking.specs.declared.Given.{Given}
use Rattle.asking.specs.declared.Known.{Known}
use Rattle.asking.specs.declared.Known.TheVariants.{World, Handler, Attributes, Kind}
use Rattle.outcome_words.specs.Came.{turned, answered, came_said, handed}
use Rattle.setup_words.specs.SetUp.{opening, setup_line, site_asked, entry_asked, name_asked}
use Rattle.telling.specs.Telling.{on_core, speaker, arrival_said, no_frame, sentence_of}

-- ---- the parts of a sentence
-- who asks
abbrev pub who_of : ℕ → Frame → Came → Sentence
who_of n (Frame.Site base pages cores) c = setup_line n
who_of n (Frame.Entry lowest last kind handler) c = setup_line n
who_of n (Frame.Name lowest count owner) c = setup_line n
who_of n (Frame.Call core) c = speaker n core c
who_of n (Frame.Arrival core) c = on_core n core ▹ Column 22
who_of n (Frame.Refused why) c = opening n ▹ Word w.no_frame ▹ Column 22

-- and what is asked, behind it
abbrev pub asked_of : ℕ → Frame → List ℕ → Came → ℕ → Sentence
asked_of n (Frame.Site base pages cores) xs c now = site_asked n base pages cores
asked_of n (Frame.Entry lowest last kind handler) xs c now = entry_asked n lowest last kind handler
asked_of n (Frame.Name lowest count owner) xs c now = name_asked n lowest count owner
asked_of n (Frame.Call core) xs c now = asked (speaker n core c) (handed c now) xs
asked_of n (Frame.Arrival core) xs c now = arrival_said n core
asked_of n (Frame.Refused why) xs c now = no_frame n why

-- ---- the table of calls
-- how many pieces an argument takes that is told so
unfoldable weight : ℕ → ℕ
weight how = pick (eqb how 0) 0 (pick (eqb how 1) 1 (pick (eqb how 2) 2 (pick (eqb how 3) 2 (pick (eqb how 4) 2 3))))

-- and all arguments of a row
unfoldable heavy : List ℕ → ℕ
heavy r = weight (get_or r 2 0) + (weight (get_or r 5 0) + (weight (get_or r 8 0) + (weight (get_or r 11 0) + weight (get_or r 14 0))))

-- no row of the table takes more than ten: one test over all
unfoldable all_light : List (ℕ × List ℕ) → Bool
all_light [] = true
all_light (p ∷ ps) = leb (heavy p.1) 10 && all_light ps

all_light_lem : all_light forms ≡ true
unfolding all_light heavy weight forms pick
all_light_lem = refl

light_at : (ps : List (ℕ × List ℕ)) (k : ℕ) → all_light ps ≡ true → heavy (get_or ps k (0, [])).1 ≤ 10
unfolding all_light heavy weight pick
light_at [] k e = omega arith
light_at (p ∷ ps) zero e = leb-true _ _ (left_true (leb (heavy p.1) 10) (all_light ps) e)
light_at (p ∷ ps) (suc k) e = light_at ps k (right_true (leb (heavy p.1) 10) (all_light ps) e)

form_light : (handed : Bool) (key : ℕ) → heavy (pick handed (row_at 20) (form key)) ≤ 10
unfolding form row_at
form_light handed key = chosen (λ (r : List ℕ). heavy r ≤ 10) handed _ _ (λ y. light_at forms 20 all_light_lem) (λ n. light_at forms _ all_light_lem)

-- ---- pieces
-- it is the number of a line
abbrev pub is_line : Piece → Bool
is_line (Word x) = false
is_line (Number x) = false
is_line (Right x) = false
is_line (Line x) = true
is_line (Hex x) = false
is_line (Value x) = false
is_line (Column x) = false

-- nor is it a column: its text is the same wherever it stands
abbrev pub is_flat : Piece → Bool
is_flat (Word x) = true
is_flat (Number x) = true
is_flat (Right x) = true
is_flat (Line x) = false
is_flat (Hex x) = true
is_flat (Value x) = true
is_flat (Column x) = false

no_line : (p : Piece) → is_flat p ≡ true → is_line p ≡ false
no_line (Word x) e = refl
no_line (Number x) e = refl
no_line (Right x) e = refl
no_line (Line x) e = absurd (yes_or_no false e refl)
no_line (Hex x) e = refl
no_line (Value x) e = refl
no_line (Column x) e = refl

-- what holds of two sentences of so many pieces or fewer, and of both with the same flat piece more
module _ (R : ℕ → Sentence → Sentence → Type 0) (step : (k : ℕ) (s t : Sentence) (p : Piece) → is_flat p ≡ true → R k s t → R (suc k) (s ▹ p) (t ▹ p)) (weak : (k l : ℕ) (s t : Sentence) → R k s t → k ≤ l → R l s t) where
  less : (k : ℕ) (s t : Sentence) → R k s t → R (suc k) s t
  less k s t h = weak k (suc k) s t h (omega arith)

  -- ---- a name, a number of things
  two : (k : ℕ) (s t : Sentence) (first count other x : ℕ) → R k s t → R (suc (suc k)) (named_from s first count other x) (named_from t first count other x)
  unfolding named_from
  two k s t first count other x h = chosen_two (R (suc (suc k))) (ltb x count) _ _ _ _ (λ y. less (suc k) _ _ (step k s t _ refl h)) (λ y. step (suc k) _ _ _ refl (step k s t _ refl h))

  name : (k : ℕ) (s t : Sentence) (known : Known) (x : ℕ) → R k s t → R (suc (suc k)) (named s known x) (named t known x)
  name k s t World x h = two k s t _ _ _ x h
  name k s t Handler x h = two k s t _ _ _ x h
  name k s t Attributes x h = two k s t _ _ _ x h
  name k s t Kind x h = two k s t _ _ _ x h

  things : (k : ℕ) (s t : Sentence) (x one many : ℕ) → R k s t → R (suc (suc k)) (counted s x one many) (counted t x one many)
  unfolding counted
  things k s t x one many h = step (suc k) _ _ _ refl (step k s t _ refl h)

  -- ---- what a call asks
  slot_built : (k : ℕ) (s t : Sentence) (word i how : ℕ) (g : Given) → R k s t → R (k + weight how) (slot s word i how g) (slot t word i how g)
  unfolding slot valued weight pick
  slot_built k s t word i how g h =
      let z0 : k + 0 ≡ k = omega arith in
      let z1 : k + 1 ≡ suc k = omega arith in
      let z2 : k + 2 ≡ suc (suc k) = omega arith in
      let z3 : k + 3 ≡ suc (suc (suc k)) = omega arith in
      let x = register i g in
      let u = step k s t (Word word) refl h in
      either (eqb how 0) (λ y. rw (y, z0) h)
      (λ a. either (eqb how 1) (λ y. rw (a, y, z1) u)
      (λ b. either (eqb how 2) (λ y. rw (a, b, y, z2) (step (suc k) _ _ (Number x) refl u))
      (λ c. either (eqb how 3) (λ y. rw (a, b, c, y, z2) (step (suc k) _ _ (Hex x) refl u))
      (λ d. either (eqb how 4) (λ y. rw (a, b, c, d, y, z2) (step (suc k) _ _ (Value x) refl u))
      (λ e. either (eqb how 5) (λ y. rw (a, b, c, d, e, y, z3) (things (suc k) _ _ x _ _ u))
      (λ f. either (eqb how 6) (λ y. rw (a, b, c, d, e, f, y, z3) (things (suc k) _ _ x _ _ u)) (λ n. rw (a, b, c, d, e, f, n, z3) (name (suc k) _ _ Attributes x u))))))))

  slots_built : (k : ℕ) (s t : Sentence) (r : List ℕ) (g : Given) → heavy r ≤ 10 → R k s t → R (k + 10) (slots s r g) (slots t r g)
  unfolding slots heavy
  slots_built k s t r g few h =
      let last = slot_built _ _ _ (get_or r 12 0) (get_or r 13 0) (get_or r 14 0) g
      (slot_built _ _ _ (get_or r 9 0) (get_or r 10 0) (get_or r 11 0) g
      (slot_built _ _ _ (get_or r 6 0) (get_or r 7 0) (get_or r 8 0) g
      (slot_built _ _ _ (get_or r 3 0) (get_or r 4 0) (get_or r 5 0) g
      (slot_built k s t (get_or r 0 0) (get_or r 1 0) (get_or r 2 0) g h)))) in
      weak _ (k + 10) _ _ last (omega (arith, few))

  call_built : (k : ℕ) (s t : Sentence) (handed : Bool) (xs : List ℕ) → R k s t → R (k + 10) (asked s handed xs) (asked t handed xs)
  unfolding asked
  call_built k s t handed xs h = slots_built k s t _ _ (form_light handed _) h

  -- ---- what came of a frame
  pub answer_built : (k : ℕ) (s t : Sentence) (a : Answer) (done now : ℕ) → R k s t → R (k + 5) (answered s a done now) (answered t a done now)
  unfolding turned
  answer_built k s t Answer.Version done now h = weak (suc k) (k + 5) _ _ (step k _ _ _ refl h) (omega arith)
  answer_built k s t Answer.PowerVersion done now h = weak (suc k) (k + 5) _ _ (step k _ _ _ refl h) (omega arith)
  answer_built k s t Answer.Done done now h = weak (suc k) (k + 5) _ _ (step k _ _ _ refl h) (omega arith)
  answer_built k s t Answer.On done now h = weak (suc k) (k + 5) _ _ (step k _ _ _ refl h) (omega arith)
  answer_built k s t Answer.Off done now h = weak (suc k) (k + 5) _ _ (step k _ _ _ refl h) (omega arith)
  answer_built k s t Answer.Pending done now h = weak (suc k) (k + 5) _ _ (step k _ _ _ refl h) (omega arith)
  answer_built k s t (Answer.Owns b) done now h = weak (suc k) (k + 5) _ _ (step k _ _ _ refl h) (omega arith)
  answer_built k s t (Answer.Leads phys attr) done now h =
      weak (suc (suc (suc (suc (suc k))))) (k + 5) _ _ (name (suc (suc (suc k))) _ _ Attributes attr (step (suc (suc k)) _ _ _ refl (step (suc k) _ _ _ refl (step k _ _ _ refl h)))) (omega arith)
  answer_built k s t (Answer.Count n) done now h = weak (suc (suc k)) (k + 5) _ _ (step (suc k) _ _ _ refl (step k _ _ _ refl h)) (omega arith)
  answer_built k s t Answer.Silent done now h =
      chosen_two (R (k + 5)) (eqb now 255) _ _ _ _ (λ y. weak (suc k) (k + 5) _ _ (step k _ _ _ refl h) (omega arith))
      (λ y. weak (suc (suc (suc k))) (k + 5) _ _ (step (suc (suc k)) _ _ _ refl (name k s t World now h)) (omega arith))
  answer_built k s t (Answer.No r) done now h =
      weak (suc (suc (suc (suc k)))) (k + 5) _ _ (step (suc (suc (suc k))) _ _ _ refl (step (suc (suc k)) _ _ _ refl (step (suc k) _ _ _ refl (step k _ _ _ refl h)))) (omega arith)

-- ---- the parts of a sentence: the same with any piece more, a line's number excepted
module _ (R : ℕ → Sentence → Sentence → Type 0) (step : (k : ℕ) (s t : Sentence) (p : Piece) → is_line p ≡ false → R k s t → R (suc k) (s ▹ p) (t ▹ p)) (weak : (k l : ℕ) (s t : Sentence) → R k s t → k ≤ l → R l s t) where
  flat : (k : ℕ) (s t : Sentence) (p : Piece) → is_flat p ≡ true → R k s t → R (suc k) (s ▹ p) (t ▹ p)
  flat k s t p e h = step k s t p (no_line p e) h

  came_built : (s t : Sentence) (accepted range clash done : ℕ) (c : Came) (now : ℕ) → R 20 (s ▹ Column 72) (t ▹ Column 72) → R 25 (came_said s accepted range clash done c now) (came_said t accepted range clash done c now)
  came_built s t accepted range clash done (Told why) now h = weak 21 25 _ _ (step 20 _ _ _ refl h) (omega arith)
  came_built s t accepted range clash done (Called made) now h = answer_built R flat weak 20 _ _ made.answer done now h

  -- for two numbers
  module _ (n m : ℕ) where
    opening_built : R 1 (blank ▹ Line n) (blank ▹ Line m) → R 2 (opening n) (opening m)
    opening_built h = step 1 _ _ _ refl h

    setup_built : R 1 (blank ▹ Line n) (blank ▹ Line m) → R 9 (setup_line n) (setup_line m)
    setup_built h = weak 4 9 _ _ (step 3 _ _ _ refl (step 2 _ _ _ refl (opening_built h))) (omega arith)

    core_built : (core : ℕ) → R 1 (blank ▹ Line n) (blank ▹ Line m) → R 4 (on_core n core) (on_core m core)
    core_built core h = step 3 _ _ _ refl (step 2 _ _ _ refl (opening_built h))

    speaker_built : (core : ℕ) (c : Came) → R 1 (blank ▹ Line n) (blank ▹ Line m) → R 9 (speaker n core c) (speaker m core c)
    speaker_built core (Told why) h = weak 5 9 _ _ (step 4 _ _ _ refl (core_built core h)) (omega arith)
    speaker_built core (Called made) h = step 8 _ _ _ refl (step 7 _ _ _ refl (name R flat weak 5 _ _ World _ (step 4 _ _ _ refl (core_built core h))))

    pub who_built : (f : Frame) (c : Came) → R 1 (blank ▹ Line n) (blank ▹ Line m) → R 9 (who_of n f c) (who_of m f c)
    who_built (Frame.Site base pages cores) c h = setup_built h
    who_built (Frame.Entry lowest last kind handler) c h = setup_built h
    who_built (Frame.Name lowest count owner) c h = setup_built h
    who_built (Frame.Call core) c h = speaker_built core c h
    who_built (Frame.Arrival core) c h = weak 5 9 _ _ (step 4 _ _ _ refl (core_built core h)) (omega arith)
    who_built (Frame.Refused why) c h = weak 4 9 _ _ (step 3 _ _ _ refl (step 2 _ _ _ refl (opening_built h))) (omega arith)

    pub asked_built : (f : Frame) (xs : List ℕ) (c : Came) (now : ℕ) → R 9 (who_of n f c) (who_of m f c) → R 19 (asked_of n f xs c now) (asked_of m f xs c now)
    asked_built (Frame.Site base pages cores) xs c now h =
        weak 17 19 _ _ (things R flat weak 15 _ _ _ _ _ (step 14 _ _ _ refl (step 13 _ _ _ refl (step 12 _ _ _ refl (things R flat weak 10 _ _ _ _ _ (step 9 _ _ _ refl h)))))) (omega arith)
    asked_built (Frame.Entry lowest last kind handler) xs c now h =
        weak 18 19 _ _ (name R flat weak 16 _ _ Handler _ (step 15 _ _ _ refl (step 14 _ _ _ refl (step 13 _ _ _ refl (step 12 _ _ _ refl (step 11 _ _ _ refl (name R flat weak 9 _ _ Kind _ h))))))) (omega arith)
    asked_built (Frame.Name lowest count owner) xs c now h =
        weak 16 19 _ _ (name R flat weak 14 _ _ World _ (step 13 _ _ _ refl (step 12 _ _ _ refl (step 11 _ _ _ refl (things R flat weak 9 _ _ _ _ _ h))))) (omega arith)
    asked_built (Frame.Call core) xs c now h = call_built R flat weak 9 _ _ _ xs h
    asked_built (Frame.Arrival core) xs c now h = weak 10 19 _ _ (step 9 _ _ _ refl h) (omega arith)
    asked_built (Frame.Refused why) xs c now h = weak 10 19 _ _ (step 9 _ _ _ refl h) (omega arith)

    pub said_built : (f : Frame) (xs : List ℕ) (c : Came) (now : ℕ) → R 20 (asked_of n f xs c now ▹ Column 72) (asked_of m f xs c now ▹ Column 72) → R 25 (sentence_of n f xs c now) (sentence_of m f xs c now)
    unfolding sentence_of
    said_built (Frame.Site base pages cores) xs c now h = came_built _ _ _ _ _ _ c now h
    said_built (Frame.Entry lowest last kind handler) xs c now h = came_built _ _ _ _ _ _ c now h
    said_built (Frame.Name lowest count owner) xs c now h = came_built _ _ _ _ _ _ c now h
    said_built (Frame.Call core) xs c now h = came_built _ _ _ _ _ _ c now h
    said_built (Frame.Arrival core) xs c now h = came_built _ _ _ _ _ _ c now h
    said_built (Frame.Refused why) xs c now h = came_built _ _ _ _ _ _ c now h
