-- What is kept from line to line of an input, whatever that is and whatever a line means.
use Rattle.std.specs.Prelude.{◌≡◌, ℕ}
use Rattle.std.proofs.Math.Path.{refl, ap}
use Rattle.std.proofs.Common.{sym, ◌∙◌}
use mathlib.Core.List.{List, [], ◌∷◌, ◌++◌, append_assoc}
use Rattle.lines.specs.Lines.{Unbroken}
use Rattle.lines.specs.Meant.{meant, meant_none, meant_first, meant_parts}
use Rattle.lines.specs.Parts.{complete, unfinished, both_parts}

-- after lines, by what each of them does
unfoldable pub folded : {S A : Type 0} → (S → A → S) → S → List A → S
folded step a [] = a
folded step a (l ∷ ls) = folded step (step a l) ls

-- after an input
unfoldable pub left : {S A : Type 0} → (S → A → S) → (List ℕ → A) → S → List ℕ → S
left step f a input = folded step a (meant f input)

-- an input in two parts, cut anywhere
pub in_two : (a b : List ℕ) → a ++ b ≡ complete a ++ (unfinished a ++ b)
in_two a b = ap (λ (l : List ℕ). l ++ b) (sym (both_parts a)) ∙ append_assoc (complete a) (unfinished a) b

module _ {S A : Type 0} (step : S → A → S) (f : List ℕ → A) where
  pub folded_two : (a : S) (ls ms : List A) → folded step a (ls ++ ms) ≡ folded step (folded step a ls) ms
  unfolding folded
  folded_two a [] ms = refl
  folded_two a (l ∷ ls) ms = folded_two (step a l) ls ms

  pub left_none : (a : S) → left step f a [] ≡ a
  unfolding left folded
  left_none a = ap (folded step a) (meant_none f)

  -- inputs that mean the same
  pub left_alike : (a : S) (p q : List ℕ) → meant f p ≡ meant f q → left step f a p ≡ left step f a q
  unfolding left
  left_alike a p q e = ap (folded step a) e

  -- a line, before what is left
  pub left_first : (a : S) (l rest : List ℕ) → Unbroken l → left step f a (l ++ 10 ∷ rest) ≡ left step f (step a (f l)) rest
  unfolding left folded
  left_first a l rest u = ap (folded step a) (meant_first f l rest u)

  -- complete lines, before any bytes
  pub lines_left : (a : S) (p q : List ℕ) → left step f a (complete p ++ q) ≡ left step f (left step f a (complete p)) q
  unfolding left
  lines_left a p q = ap (folded step a) (meant_parts f p q) ∙ folded_two a (meant f (complete p)) (meant f q)

  -- An input that is cut anywhere leaves what it leaves whole.
  pub left_in_parts : (a : S) (p q : List ℕ) → left step f a (p ++ q) ≡ left step f (left step f a (complete p)) (unfinished p ++ q)
  left_in_parts a p q = ap (left step f a) (in_two p q) ∙ lines_left a p (unfinished p ++ q)
