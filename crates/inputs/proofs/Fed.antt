-- How far one feed goes: line by line, while there is room for the longest answer, up to a line that lacks its newline.
use Rattle.std.specs.Prelude.{◌≡◌, None, Option, Some}
use Rattle.std.proofs.Math.Path.{refl, sym, ap}
use Rattle.std.proofs.Common.{◌∙◌, lt-ltb, le-ltb}
use mathlib.Core.List.{List, []}
use Prim.Native.Nat.{ℕ, zero, suc, ◌-◌, ◌≤◌, ◌<◌}
use native.Mathlib.Omega.{arith}
use Rattle.std.proofs.Math.ListN.{length}
use Rattle.lines.specs.Next.{Line}
use Rattle.lines.specs.declared.Next.{Next}
use Rattle.rules.specs.Choice.{pick, pick_yes, pick_no, either}
use Rattle.tools.specs.Laid.{put}
use Rattle.parsing.specs.Frame.{is_call}
use Rattle.text.specs.Text.{longest}
use Rattle.lines.specs.Lines.{end_of, line_at, lined, next_of, end_from}
use Rattle.lines.specs.Input.{reading_of, next_found, next_unfinished, next_inside}
use Rattle.parsing.specs.declared.Frame.{Frame}
use Rattle.showing.specs.declared.Reply.{Reply}
use Rattle.frames.specs.Frames.{Machine}
use Rattle.answering.specs.Answer.{text_of, answered, numbers_idle}
use Rattle.inputs.specs.Fed.{Stand, fed, fed_in, full, onward, place, stand, stepped}

module _ (s : List ℕ) where
  -- ---- more lines than there are bytes make no difference
  unfinished : (at : ℕ) → length s ≤ end_of s at → next_of s at [] ≡ (None, [])
  unfolding next_of
  unfinished at h = pick_no _ _ _ (le-ltb (end_of s at) (length s) h)

  past : (at : ℕ) → length s ≤ at → next_of s at [] ≡ (None, [])
  past at h = unfinished at (omega (arith, end_from s at))

  -- a line as it is read by itself
  plain : (at : ℕ) (f : Frame) (after : ℕ) (xs ys : List ℕ) → (Line f after, ys) ≡ next_of s at xs → next_of s at [] ≡ (Line f after, pick (is_call f) ys [])
  unfolding next_of
  plain at f after xs ys e =
      let w = next_found s xs ys at f after e in
      pick_yes _ _ _ (lt-ltb (end_of s at) (length s) w.whole)
      ∙ rw (← w.next) (ap (λ (q : Frame × List ℕ). lined q after) (reading_of (line_at s at) xs ys f w.is))

  at_end : (n : ℕ) (d : Stand) → length s ≤ d.read → fed_in n s d ≡ d
  unfolding fed_in
  at_end zero d h = refl
  at_end (suc n) d h =
      either (full d) (λ y. pick_yes _ _ _ y)
      (λ k. pick_no _ _ _ k ∙ ap (onward d (fed_in n s)) (past d.read h))

  same : (d : Stand) (go stop : Stand → Stand) → ((f : Frame) (after : ℕ) (xs : List ℕ) → next_of s d.read [] ≡ (Line f after, xs) → go (stepped d f after xs) ≡ stop (stepped d f after xs))
      → (q : Option Next × List ℕ) → next_of s d.read [] ≡ q → onward d go q ≡ onward d stop q
  same d go stop t (Some l, xs) e = t l.frame l.after xs e
  same d go stop t (None, xs) e = refl

  enough : (n k : ℕ) (d : Stand) → length s - d.read ≤ n → length s - d.read ≤ k → fed_in n s d ≡ fed_in k s d
  unfolding fed_in
  enough zero k d h l = sym (at_end k d (omega arith))
  enough (suc n) zero d h l = at_end (suc n) d (omega arith)
  enough (suc n) (suc k) d h l =
      ap (λ (q : Stand). pick (full d) d q)
      (same d (fed_in n s) (fed_in k s) (λ f after xs e. let i = next_inside s [] xs d.read f after (sym e) in enough n k (stepped d f after xs) (omega arith) (omega arith)) (next_of s d.read []) refl)

  -- ---- where it stays
  module _ (d : Stand) where
    -- no room
    pub fed_full : length d.out - d.done < longest → d ≡ fed s d
    unfolding fed fed_in
    fed_full h = sym (stays (length s - d.read))
      where
        stays : (n : ℕ) → fed_in n s d ≡ d
        stays zero = refl
        stays (suc n) = pick_yes _ _ _ (lt-ltb (length d.out - d.done) _ (omega (arith, h)))

    -- no bytes
    pub fed_end : length s ≤ d.read → d ≡ fed s d
    unfolding fed
    fed_end h = sym (at_end (length s - d.read) d h)

    -- no newline
    pub fed_unfinished : (k : Option Next) (xs ys : List ℕ) → (k, ys) ≡ next_of s d.read xs → k ≡ None → d ≡ fed s d
    unfolding fed fed_in
    fed_unfinished k xs ys e is = sym (still (length s - d.read))
      where
        none : next_of s d.read [] ≡ (None, [])
        none = unfinished d.read (next_unfinished s xs ys d.read (rw is at e)).0

        still : (n : ℕ) → fed_in n s d ≡ d
        still zero = refl
        still (suc n) = either (full d) (λ y. pick_yes _ _ _ y) (λ k. pick_no _ _ _ k ∙ ap (onward d (fed_in n s)) none)

    -- ---- and where it goes on
    pub fed_line : (k : Option Next) (xs ys : List ℕ) → (k, ys) ≡ next_of s d.read xs → (f : Frame) (after : ℕ) → k ≡ Line f after → longest ≤ length d.out - d.done
        → fed s (stepped d f after ys) ≡ fed s d
    unfolding fed fed_in
    fed_line k xs ys e f after is h =
        let line : (Line f after, ys) ≡ next_of s d.read xs = rw is at e in
        let i = next_inside s xs ys d.read f after line in
        let n : length s - d.read ≡ suc (length s - d.read - 1) = omega arith in
        rw n
        (sym (pick_no _ _ _ (le-ltb (length d.out - d.done) longest h)
        ∙ ap (onward d (fed_in (length s - d.read - 1) s)) (plain d.read f after xs ys line)
        ∙ enough (length s - d.read - 1) (length s - after) (stepped d f after (pick (is_call f) ys [])) (omega arith) (omega arith)
        ∙ ap (λ (q : Machine × Reply). fed_in (length s - after) s (stand q.0 after (put d.out (place d) (text_of q.1)).0 (put d.out (place d) (text_of q.1)).1)) (numbers_idle d.machine f ys)))

-- ---- how the code's branches meet these
module _ (s : List ℕ) (m : Machine) (at done : ℕ) (out : List ℕ) (o : Stand) (inv : fed s (stand m at done out) ≡ o) where
  pub stops_full : length out - done < longest → stand m at done out ≡ o
  stops_full h = fed_full s (stand m at done out) h ∙ inv

  pub stops_end : length s ≤ at → stand m at done out ≡ o
  stops_end h = fed_end s (stand m at done out) h ∙ inv

  module _ (k : Option Next) (xs ys : List ℕ) (e : (k, ys) ≡ next_of s at xs) where
    pub stops_unfinished : k ≡ None → stand m at done out ≡ o
    stops_unfinished is = fed_unfinished s (stand m at done out) k xs ys e is ∙ inv

    pub goes_on : (f : Frame) (after : ℕ) → k ≡ Line f after → longest ≤ length out - done → (m' : Machine) (out' : List ℕ) (done' : ℕ)
        → (m', (done', out')) ≡ answered m f ys out (place (stand m at done out)) → fed s (stand m' after done' out') ≡ o
    goes_on f after is h m' out' done' a =
        ap (λ (q : Machine × (ℕ × List ℕ)). fed s (stand q.0 after q.1.0 q.1.1)) a ∙ fed_line s (stand m at done out) k xs ys e f after is h ∙ inv

pub ruleset stops = (stops_full, stops_end, stops_unfinished)
