-- How the code's branches meet the definitions of Spans: one law for each outcome.
use Rattle.std.specs.Prelude.{◌≡◌, Bool, true, false, List, ltb, None, Option, Some}
use Rattle.std.proofs.Math.Path.{sym}
use Rattle.std.proofs.Common.{◌∙◌, arith}
use Prim.Native.Nat.{ℕ, ◌+◌, ◌-◌, ◌*◌, ◌/◌, ◌≤◌, ◌<◌}
use borrow.Author.Tests.{eq-eqb, ne_eqb, lt-ltb, le-ltb, ltb-true, ltb-false}
use Rattle.spans.specs.Named.{Pages}
use Rattle.spans.specs.declared.Span.{Span}
use Rattle.rules.specs.Choice.{picked, passed, either, both_true, left_false, right_false}
use Rattle.rules.specs.Sizes.{page_size}
use Rattle.rules.specs.declared.Reason.{Reason}
use Rattle.calls.specs.declared.Made.{Made}
use Rattle.pages.specs.Window.{run_of}
use Rattle.pages.specs.declared.Window.{Window}
use Rattle.judgements.specs.Judge.{called_by, args_of, row_of}
use Rattle.judgements.specs.Asked.{key}
use Rattle.judgements.specs.declared.Args.{Args}
use Rattle.judgements.specs.declared.Transfer.{Transfer}
use Rattle.judgements.specs.declared.Request.{Request}
use Rattle.judgements.specs.declared.Answer.{Answer}
use Rattle.judgements.specs.declared.Answer.TheVariants as Answer
use Rattle.judgements.specs.Read.{args_by}
use Rattle.judging.specs.Laws.{request_of, request_args}
use Rattle.parsing.specs.Frame.{status_byte}
use Rattle.parsing.specs.declared.Status.{Status}
use Rattle.parsing.specs.declared.Frame.{Frame}
use Rattle.parsing.specs.declared.Frame.TheVariants as Frame
use Rattle.outcomes.specs.declared.Came.{Came}
use Rattle.outcomes.specs.declared.Came.TheVariants.{Told, Called}
use Rattle.spans.specs.Spans.{any_row, span_of, asked_by, is_done, named_in, named, over_page, asks_over, is_verdict, asks_for}

-- ---- the row of a call
module _ (a : Args) (key : ℕ) (r : Option Transfer) (is : r ≡ row_of a 2 key) where
  pub row_first : (t : Transfer) → r ≡ Some t → Some t ≡ any_row a key
  unfolding any_row
  row_first t e = rw (← is, e)

  pub row_second : (q : Option Transfer) → r ≡ None → q ≡ row_of a 1 key → q ≡ any_row a key
  unfolding any_row
  row_second q e h = rw (← is, e) h

pub ruleset rows = (row_first, row_second)

-- ---- where a run lies
module _ (w : Window) (start count : ℕ) (p : Option ℕ) (is : p ≡ run_of w start count) where
  pub lies_in : (first : ℕ) → p ≡ Some first → Pages first count ≡ span_of w start count
  lies_in first e = rw (← is, e)

  pub lies_out : p ≡ None → None ≡ span_of w start count
  lies_out e = rw (← is, e)

pub ruleset lyings = (lies_in, lies_out)

-- ---- the pages of a transfer
-- the row of a call, by the arguments that it reads
row_so : (xs : List ℕ) (q : Request) → q ≡ request_of xs → (r : Option Transfer) → r ≡ any_row (args_by q.key xs) q.key → r ≡ any_row q.args q.key
row_so xs q is r found = rw (request_args xs q is) at found

module _ (w : Window) (xs : List ℕ) (q : Request) (is : q ≡ request_of xs) (r : Option Transfer) (found : r ≡ any_row (args_by q.key xs) q.key) where
  so : r ≡ any_row q.args q.key
  so = row_so xs q is r found

  pub asks_none : r ≡ None → None ≡ asked_by w xs
  unfolding asked_by
  asks_none e = let z : any_row (args_of (called_by xs) xs) (key xs) ≡ None = sym (rw is at so) ∙ e in rw z

  pub asks_some : (t : Transfer) (s : Option Span) → r ≡ Some t → s ≡ span_of w q.args.x1 t.count → s ≡ asked_by w xs
  unfolding asked_by
  asks_some t s e h = let z : any_row (args_of (called_by xs) xs) (key xs) ≡ Some t = sym (rw is at so) ∙ e in rw z (rw is at h)

pub ruleset asking = (asks_none, asks_some)

-- ---- a refusal is not granted, but a verdict
pub refusal_not : (a : Answer) (r : Reason) → a ≡ Answer.No r → false ≡ is_done a
refusal_not a r e = rw e

pub refusal_is : (a : Answer) (r : Reason) → a ≡ Answer.No r → true ≡ is_verdict a
refusal_is a r e = rw e

-- ---- a set-up line
module _ (f : Frame) where
  pub names_run : (first count to : ℕ) → f ≡ Frame.Name first count to → Pages first count ≡ named_in f
  names_run first count to e = rw e

  pub names_refused : (why : Status) → f ≡ Frame.Refused why → None ≡ named_in f
  names_refused why e = rw e

pub ruleset frames_named = (names_run, names_refused)

-- ---- a line
module _ (w : Window) (f : Frame) (xs : List ℕ) (c : Came) (s : Option Span) where
  module _ (why : Status) (is : c ≡ Told why) (n : ℕ) (byte : n ≡ status_byte why) where
    pub told_accepted : n ≡ 0 → s ≡ named_in f → s ≡ named w f xs c
    unfolding named
    told_accepted e h = rw is (picked _ _ _ _ (eq-eqb (status_byte why) 0 (sym byte ∙ e)) h)

    pub told_refused : (n ≡ 0 → ⊥) → s ≡ None → s ≡ named w f xs c
    unfolding named
    told_refused e h = rw is (passed _ _ _ _ (ne_eqb (status_byte why) 0 (λ z. e (byte ∙ z))) h)

  module _ (made : Made) (is : c ≡ Called made) (b : Bool) (said : b ≡ is_done made.answer) where
    pub called_done : b ≡ true → s ≡ asked_by w xs → s ≡ named w f xs c
    unfolding named
    called_done e h = rw is (picked _ _ _ _ (sym said ∙ e) h)

    pub called_other : b ≡ false → s ≡ None → s ≡ named w f xs c
    unfolding named
    called_other e h = rw is (passed _ _ _ _ (sym said ∙ e) h)

pub ruleset lines_named = (told_accepted, told_refused, called_done, called_other)

-- ---- an address of a page
module _ (address start count : ℕ) where
  abbrev at : ℕ
  at = address / page_size * page_size

  pub over_none : count ≡ 0 → false ≡ over_page address start count
  unfolding over_page
  over_none e = rw e

  pub over_before : address / page_size < start / page_size → false ≡ over_page address start count
  unfolding over_page
  over_before h = sym (right_false (ltb 0 count) _ (left_false (ltb start (at + page_size)) _ (le-ltb start (at + page_size) (omega arith))))

  module _ (some : count ≡ 0 → ⊥) (low : start / page_size ≤ address / page_size) where
    starts : ltb start (at + page_size) ≡ true
    starts = lt-ltb start (at + page_size) (omega arith)

    pub over_near : address / page_size < count → true ≡ over_page address start count
    unfolding over_page
    over_near h = sym (both_true _ _ (lt-ltb 0 count (omega arith)) (both_true _ _ starts (lt-ltb at (start + count * page_size) (omega arith))))

    pub over_far : count ≤ address / page_size → ltb ((address / page_size - count) * page_size) start ≡ over_page address start count
    unfolding over_page
    over_far h =
        let behind : ℕ = (address / page_size - count) * page_size in
        either (ltb behind start)
        (λ y. let g = ltb-true behind start y in y ∙ sym (both_true _ _ (lt-ltb 0 count (omega arith)) (both_true _ _ starts (lt-ltb at (start + count * page_size) (omega arith)))))
        (λ n. let g = ltb-false behind start n in n ∙ sym (right_false (ltb 0 count) _ (right_false (ltb start (at + page_size)) _ (le-ltb at (start + count * page_size) (omega arith)))))

pub ruleset overs = (over_none, over_before, over_near, over_far)

module _ (address : ℕ) (xs : List ℕ) (q : Request) (is : q ≡ request_of xs) (r : Option Transfer) (found : r ≡ any_row (args_by q.key xs) q.key) where
  over_so : r ≡ any_row q.args q.key
  over_so = row_so xs q is r found

  pub over_no : r ≡ None → false ≡ asks_over address xs
  unfolding asks_over
  over_no e = let z : any_row (args_of (called_by xs) xs) (key xs) ≡ None = sym (rw is at over_so) ∙ e in rw z

  pub over_some : (t : Transfer) (b : Bool) → r ≡ Some t → b ≡ over_page address q.args.x1 t.count → b ≡ asks_over address xs
  unfolding asks_over
  over_some t b e h = let z : any_row (args_of (called_by xs) xs) (key xs) ≡ Some t = sym (rw is at over_so) ∙ e in rw z (rw is at h)

pub ruleset asking_over = (over_no, over_some)

module _ (p : Option ℕ) (address : ℕ) (xs : List ℕ) (a : Answer) where
  pub for_outside : p ≡ None → false ≡ asks_for p address xs a
  for_outside e = rw e

  module _ (page : ℕ) (e : p ≡ Some page) (b : Bool) (said : b ≡ is_verdict a) where
    pub for_page : (r : Bool) → b ≡ true → r ≡ asks_over address xs → r ≡ asks_for p address xs a
    for_page r y h = let z : is_verdict a ≡ true = sym said ∙ y in rw (e, z) h

    pub for_none : b ≡ false → false ≡ asks_for p address xs a
    for_none n = let z : is_verdict a ≡ false = sym said ∙ n in rw (e, z)

pub ruleset asking_for = (for_outside, for_page, for_none)
