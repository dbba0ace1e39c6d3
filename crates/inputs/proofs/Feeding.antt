-- How far a feed goes that prints nothing, and what it leaves, whatever is kept and whatever a line means: all complete lines are taken.
use Rattle.std.proofs.Math.Path.{◌≡◌, ap}
use Rattle.std.specs.Prelude.{take, None, Option}
use Rattle.std.proofs.Common.{◌∙◌}
use mathlib.Core.List.{List, [], ◌∷◌, ◌++◌}
use Prim.Native.Nat.{ℕ, ◌+◌, ◌-◌, ◌≤◌}
use native.Mathlib.Omega.{arith}
use Rattle.std.proofs.Math.ListN.{length, drop, length-append, length-drop}
use Rattle.std.proofs.Math.Seq.{length-take-le}
use Rattle.lines.specs.Next.{Line}
use Rattle.lines.specs.declared.Next.{Next}
use Rattle.lines.specs.Lines.{end_of, line_at, part, next_of, line_unbroken, rest_unbroken, split_line, end_from}
use Rattle.lines.specs.Parts.{complete}
use Rattle.lines.specs.Input.{next_found, next_unfinished}
use Rattle.lines.specs.Front.{fronted}
use Rattle.lines.specs.Close.{closing}
use Rattle.parsing.specs.declared.Frame.{Frame}
use Rattle.inputs.specs.Cut.{unbroken_so, none_complete}
use Rattle.inputs.specs.Folds.{left, left_none, left_first}
use Rattle.inputs.specs.Waiting.{heard, front, taken}
use Rattle.inputs.proofs.Closing.{takes}
use Rattle.inputs.specs.Feeding.{complete_line, feeding}

module _ {S A : Type 0} (step : S → A → S) (f : List ℕ → A) where
  -- ---- where it stops, and where it goes on
  module _ (a : S) (at : ℕ) (s : List ℕ) where
    stops_so : length s ≤ end_of s at → (at, a) ≡ feeding step f a at s
    unfolding feeding
    stops_so h =
        let e : complete (drop at s) ≡ [] = none_complete (drop at s) (unbroken_so (drop at s) (rest_unbroken s at h)) in
        let z : at ≡ at + 0 = omega arith in
        rw (e, left_none step f a) (ap (λ (n : ℕ). (n, a)) z)

    pub feeding_end : length s ≤ at → (at, a) ≡ feeding step f a at s
    feeding_end h = stops_so (omega (arith, end_from s at))

    pub feeding_stop : (k : Option Next) (xs ys : List ℕ) → (k, ys) ≡ next_of s at xs → k ≡ None → (at, a) ≡ feeding step f a at s
    feeding_stop k xs ys e is = stops_so (next_unfinished s xs ys at (rw is at e)).0

    pub feeding_line : (fr : Frame) (xs ys : List ℕ) (after : ℕ) → (Line fr after, ys) ≡ next_of s at xs → feeding step f (step a (f (line_at s at))) after s ≡ feeding step f a at s
    unfolding feeding
    feeding_line fr xs ys after e =
        let d = next_found s xs ys at fr after e in
        let l : List ℕ = line_at s at in
        let rest : List ℕ = drop (end_of s at + 1) s in
        let c : complete (drop at s) ≡ l ++ 10 ∷ complete rest = ap complete (split_line s at d.whole) ∙ complete_line l rest in
        let g = end_from s at in
        let n : length l ≡ end_of s at - at = length-take-le (end_of s at - at) (drop at s) (omega (arith, d.whole, length-drop at s)) in
        let z = length-append l (10 ∷ complete rest) in
        let k : end_of s at + 1 + length (complete rest) ≡ at + length (l ++ 10 ∷ complete rest) = omega arith in
        rw (c, d.next, left_first step f a l (complete rest) (line_unbroken s at), k)

  -- ---- a feed of all that was heard is what a read calls for
  pub feeds : (a a' : S) (buf : List ℕ) (kept n end : ℕ) (b : List ℕ) (used kept' : ℕ) (b' : List ℕ)
      → (end, b) ≡ closing buf kept n → (used, a') ≡ feeding step f a 0 (part b 0 end) → (kept', b') ≡ fronted b used end
      → (a', front kept' b') ≡ taken step f a (heard buf kept n)
  unfolding feeding
  feeds a a' buf kept n end b used kept' b' e h k =
      let z : end - 0 ≡ end = omega arith in
      let g : ◌≡◌ {A = ℕ × S} (used, a') (0 + length (complete (take end b)), left step f a (complete (take end b))) = rw z at h in
      let u : used ≡ 0 + length (complete (take end b)) = ap (λ (q : ℕ × S). q.0) g in
      takes step f a a' buf kept n end b used kept' b' e (omega arith) (ap (λ (q : ℕ × S). q.1) g) k
