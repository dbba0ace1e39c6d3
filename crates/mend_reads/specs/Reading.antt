-- The loop of mending: the machine of the kept lines and the sheet are what is kept, and a line means its frame and its bytes.
use Rattle.std.specs.Prelude.{◌≡◌, Bool, true, List, ℕ, ◌-◌, ◌≤◌, length, None, Option}
use Rattle.std.proofs.Math.Path.{sym}
use Rattle.std.proofs.Common.{ap, ◌∙◌, arith}
use Rattle.lines.specs.Next.{Line}
use Rattle.lines.specs.declared.Next.{Next}
use Rattle.lines.specs.Lines.{line_at, part, next_of, end_of}
use Rattle.lines.specs.Input.{reading, reading_of, next_found}
use Rattle.lines.specs.Front.{fronted}
use Rattle.lines.specs.Close.{closing}
use Rattle.parsing.specs.declared.Frame.{Frame}
use Rattle.frames.specs.Frames.{Machine, first}
use Rattle.inputs.specs.Folds.{left}
use Rattle.inputs.specs.Feeding.{feeding}
use Rattle.inputs.proofs.Feeding.{feeding_end, feeding_stop, feeding_line, feeds}
use Rattle.inputs.specs.Waiting.{heard, front, taken}
use Rattle.inputs.specs.Loop as Loop
use Rattle.sheets.specs.Sheet.{Sheet}
use Rattle.mending.specs.Judged.{meaning, Kept, after_line}
use Rattle.mending.specs.Laws.{line_idle, line_cut}

-- ---- the loop of a feed
module _ (s : List ℕ) (k : Kept) (at : ℕ) (o : ℕ × Kept) (inv : feeding after_line meaning k at s ≡ o) where
  pub stops_end : length s ≤ at → (at, k) ≡ o
  stops_end h = feeding_end after_line meaning k at s h ∙ inv

  module _ (next : Option Next) (xs ys : List ℕ) (e : (next, ys) ≡ next_of s at xs) where
    pub stops_unfinished : next ≡ None → (at, k) ≡ o
    stops_unfinished is = feeding_stop after_line meaning k at s next xs ys e is ∙ inv

    pub goes_on : (f : Frame) (after : ℕ) → next ≡ Line f after → (k' : Kept) → k' ≡ after_line k ((f, ys), part s at (after - 1)) → feeding after_line meaning k' after s ≡ o
    unfolding meaning
    goes_on f after is k' g =
        let line : (Line f after, ys) ≡ next_of s at xs = rw is at e in
        let d = next_found s xs ys at f after line in
        let z : after - 1 ≡ end_of s at = omega (arith, d.next) in
        let q : k' ≡ after_line k ((f, ys), line_at s at) = rw z at g in
        let w : k' ≡ after_line k (reading (line_at s at), line_at s at) = q ∙ sym (line_idle k f ys (line_at s at)) ∙ rw (← reading_of (line_at s at) xs ys f d.is) in
        rw (w ∙ sym (line_cut k (line_at s at))) (feeding_line after_line meaning k at s f xs ys after line) ∙ inv

pub ruleset stops = (stops_end, stops_unfinished)

-- ---- a read
pub read_taken : (k k' : Kept) (buf : List ℕ) (kept n end : ℕ) (b : List ℕ) (used kept' : ℕ) (b' : List ℕ)
    → (end, b) ≡ closing buf kept n → (used, k') ≡ feeding after_line meaning k 0 (part b 0 end) → (kept', b') ≡ fronted b used end
    → (k', front kept' b') ≡ taken after_line meaning k (heard buf kept n)
read_taken = feeds after_line meaning

-- ---- the loop of reads
abbrev pub Serving : Kept → Kept → List ℕ → ℕ → Type 0
Serving k₀ k s kept = Loop.Serving after_line meaning k₀ k s kept

-- what is kept after an input
abbrev pub Ran : Kept → Kept → Type 0
Ran k k' = Loop.Ran after_line meaning k k'

-- ---- from a machine as it is before the first frame
-- a sheet with what an input comes to
pub record Mends (s s' : Sheet) : Type 0 where
  pub input : List ℕ
  pub is : s' ≡ (left after_line meaning (first, s) input).1

pub ran_mends : (m m' : Machine) (h h' : Sheet) (whole : Bool) → (whole ≡ true → Ran (m, h) (m', h')) → whole ≡ true → m ≡ first → Mends h h'
ran_mends m m' h h' whole ran y e =
    let q : Ran (first, h) (m', h') = rw e at (ran y) in
    record { input = q.input; is = ap (λ (u : Kept). u.1) q.is }
