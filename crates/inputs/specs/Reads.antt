-- An input that comes in by any reads: what is kept after all of them is what is kept after the input, whatever that is and whatever a line means.
use Rattle.std.specs.Prelude.{◌≡◌}
use Rattle.std.proofs.Math.Path.{sym, ap}
use Rattle.std.proofs.Common.{◌∙◌, arith}
use mathlib.Core.List.{List, [], ◌∷◌, ◌++◌, append-nil, append_assoc}
use Prim.Native.Nat.{ℕ}
use Rattle.std.proofs.Math.ListN.{take}
use Rattle.lines.specs.Lines.{Unbroken}
use Rattle.lines.specs.Meant.{Blind, meant_cut}
use Rattle.lines.specs.Parts.{complete, unfinished}
use Rattle.inputs.specs.Cut.{unfinished_so}
use Rattle.inputs.specs.Folds.{left, left_alike, left_in_parts}

-- the input that came in
unfoldable pub joined : List (List ℕ) → List ℕ
joined [] = []
joined (got ∷ reads) = got ++ joined reads

-- Any reads, and then the end of the input, where what waits is a line. After each read the complete lines are taken, and what is unfinished waits, as much of it as its meaning can depend on.
unfoldable pub left_over : {S A : Type 0} → (S → A → S) → (List ℕ → A) → S → List ℕ → List (List ℕ) → S
left_over step f a waits [] = left step f a waits
left_over step f a waits (got ∷ reads) = left_over step f (left step f a (complete (waits ++ got))) (take 133 (unfinished (waits ++ got))) reads

module _ {S A : Type 0} (step : S → A → S) (f : List ℕ → A) (blind : Blind f) where
  left_in : (reads : List (List ℕ)) (a : S) (l : List ℕ) → Unbroken l → left_over step f a (take 133 l) reads ≡ left step f a (l ++ joined reads)
  unfolding left_over joined
  left_in [] a l u = ap (left step f a) (sym (append-nil (take 133 l))) ∙ left_alike step f a _ _ (meant_cut f blind l [] u)
  left_in (got ∷ reads) a l u =
      let s : List ℕ = take 133 l ++ got in
      left_in reads (left step f a (complete s)) (unfinished s) (unfinished_so s)
      ∙ sym (left_in_parts step f a s (joined reads)) ∙ ap (left step f a) (append_assoc (take 133 l) got (joined reads))
      ∙ left_alike step f a _ _ (meant_cut f blind l (got ++ joined reads) u)

  -- However an input comes in, what is kept in the end is what it leaves.
  pub all_left : (a : S) (reads : List (List ℕ)) → left_over step f a [] reads ≡ left step f a (joined reads)
  all_left a reads = left_in reads a [] (λ k h. absurd (omega arith))
