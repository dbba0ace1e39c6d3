-- How far a feed goes that prints nothing, and what it leaves, whatever is kept and whatever a line means: all complete lines are taken.
use Rattle.std.proofs.Math.Path.{◌≡◌, ap}
use Rattle.std.specs.Prelude.{refl, true, eqb}
use Rattle.std.proofs.Common.{◌∙◌}
use mathlib.Core.List.{List, [], ◌∷◌, ◌++◌}
use Prim.Native.Nat.{ℕ, ◌+◌}
use Rattle.std.proofs.Math.ListN.{length, drop}
use Rattle.rules.specs.Choice.{pick_yes, second_or}
use Rattle.lines.specs.Parts.{broken, complete}
use Rattle.inputs.specs.Folds.{left}

-- from a place on
unfoldable pub feeding : {S A : Type 0} → (S → A → S) → (List ℕ → A) → S → ℕ → List ℕ → ℕ × S
feeding step f a at s = (at + length (complete (drop at s)), left step f a (complete (drop at s)))

-- a line and its newline are complete, before whatever stands behind them
broken_line : (l rest : List ℕ) → broken (l ++ 10 ∷ rest) ≡ true
unfolding broken
broken_line [] rest = refl
broken_line (b ∷ l) rest = second_or (eqb b 10) _ (broken_line l rest)

pub complete_line : (l rest : List ℕ) → complete (l ++ 10 ∷ rest) ≡ l ++ 10 ∷ complete rest
unfolding complete
complete_line [] rest = pick_yes _ _ _ (broken_line [] rest)
complete_line (b ∷ l) rest = pick_yes _ _ _ (broken_line (b ∷ l) rest) ∙ ap (λ (r : List ℕ). b ∷ r) (complete_line l rest)
