-- The loop of a report: the machine of the run and the table of counts are what is kept, and a line means what a report makes of it.
use Rattle.std.specs.Prelude.{◌≡◌, Bool, true, List, ℕ, ◌-◌, ◌≤◌, length, take, None, Option}
use Rattle.std.proofs.Math.Path.{sym}
use Rattle.std.proofs.Common.{ap, ◌∙◌, arith}
use Rattle.lines.specs.Next.{Line}
use Rattle.lines.specs.declared.Next.{Next}
use Rattle.lines.specs.Lines.{line_at, part, next_of, end_of}
use Rattle.lines.specs.Meant.{meant}
use Rattle.lines.specs.Input.{reading_of, next_found}
use Rattle.lines.specs.Front.{fronted}
use Rattle.lines.specs.Close.{closing}
use Rattle.parsing.specs.declared.Frame.{Frame}
use Rattle.frames.specs.Frames.{Machine, first}
use Rattle.inputs.specs.Folds.{left}
use Rattle.inputs.specs.Feeding.{feeding}
use Rattle.inputs.proofs.Feeding.{feeding_end, feeding_stop, feeding_line, feeds}
use Rattle.inputs.specs.Waiting.{heard, front, taken}
use Rattle.inputs.specs.Carried.{carried}
use Rattle.inputs.specs.Loop as Loop
use Rattle.inputs.proofs.Loop as Looping
use Rattle.counting.specs.Counted.{apart, meaning, counted, Kept, noted_all, after_line}
use Rattle.counting.specs.Laws.{meaning_blind, line_idle, kept_noted}

-- ---- the loop of a feed
module _ (s : List ℕ) (k : Kept) (at : ℕ) (o : ℕ × Kept) (inv : feeding after_line meaning k at s ≡ o) where
  pub stops_end : length s ≤ at → (at, k) ≡ o
  stops_end h = feeding_end after_line meaning k at s h ∙ inv

  module _ (next : Option Next) (xs ys : List ℕ) (e : (next, ys) ≡ next_of s at xs) where
    pub stops_unfinished : next ≡ None → (at, k) ≡ o
    stops_unfinished is = feeding_stop after_line meaning k at s next xs ys e is ∙ inv

    pub goes_on : (f : Frame) (after : ℕ) → next ≡ Line f after → (between : Bool) → between ≡ apart (part s at (after - 1)) → (k' : Kept) → k' ≡ after_line k (between, (f, ys))
        → feeding after_line meaning k' after s ≡ o
    unfolding meaning
    goes_on f after is between b k' g =
        let line : (Line f after, ys) ≡ next_of s at xs = rw is at e in
        let d = next_found s xs ys at f after line in
        let z : after - 1 ≡ end_of s at = omega (arith, d.next) in
        let q : between ≡ apart (line_at s at) = rw z at b in
        let w : k' ≡ after_line k (meaning (line_at s at)) = g ∙ sym (line_idle k between f ys) ∙ rw (q, ← reading_of (line_at s at) xs ys f d.is) in
        rw w (feeding_line after_line meaning k at s f xs ys after line) ∙ inv

pub ruleset stops = (stops_end, stops_unfinished)

-- ---- a read
pub read_taken : (k k' : Kept) (buf : List ℕ) (kept n end : ℕ) (b : List ℕ) (used kept' : ℕ) (b' : List ℕ)
    → (end, b) ≡ closing buf kept n → (used, k') ≡ feeding after_line meaning k 0 (part b 0 end) → (kept', b') ≡ fronted b used end
    → (k', front kept' b') ≡ taken after_line meaning k (heard buf kept n)
read_taken = feeds after_line meaning

-- ---- the loop of reads
abbrev pub Serving : Kept → Kept → List ℕ → ℕ → Type 0
Serving k₀ k s kept = Loop.Serving after_line meaning k₀ k s kept

pub serving_none : (k : Kept) (s : List ℕ) → Serving k k s 0
serving_none = Loop.serving_none after_line meaning

-- what is kept after an input
abbrev pub Ran : Kept → Kept → Type 0
Ran k k' = Loop.Ran after_line meaning k k'

-- one read more, which left what waits where it was
module _ (k₀ k : Kept) (s₀ : List ℕ) (kept : ℕ) (v : Serving k₀ k s₀ kept) (s : List ℕ) (n : ℕ) (same : take kept s ≡ take kept s₀)
    (k' : Kept) (kept' : ℕ) (s' : List ℕ) (e : (k', front kept' s') ≡ taken after_line meaning k (heard s kept n)) where
  -- and brought something
  pub serving_on : kept ≤ n → (n ≡ kept → ⊥) → Serving k₀ k' s' kept'
  serving_on = Looping.serving_on after_line meaning k₀ k s₀ kept v s n same k' kept' s' (carried after_line meaning k (heard s kept n) k' kept' s' e)

  -- or nothing: the input has ended
  pub served_all : n ≡ kept → 65536 ≡ length s → Ran k₀ k'
  served_all z h = Looping.served_all after_line meaning k₀ k s₀ kept v s n same k' kept' s' (carried after_line meaning k (heard s kept n) k' kept' s' e) meaning_blind z (omega arith)

-- ---- from a machine as it is before the first frame
-- a table with the calls noted that are counted of an input
pub record Noted (t t' : List ℕ) : Type 0 where
  pub input : List ℕ
  pub is : t' ≡ noted_all t (counted input)

pub ran_noted : (m m' : Machine) (c c' : List ℕ) (whole : Bool) → (whole ≡ true → Ran (m, c) (m', c')) → whole ≡ true → m ≡ first → Noted c c'
unfolding left counted
ran_noted m m' c c' whole ran y e =
    let q : Ran (first, c) (m', c') = rw e at (ran y) in
    record { input = q.input; is = ap (λ (u : Kept). u.1) q.is ∙ kept_noted (meant meaning q.input) first c }
