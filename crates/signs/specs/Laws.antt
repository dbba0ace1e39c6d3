-- How the code meets the definitions.
use Rattle.std.specs.Prelude.{◌≡◌, Bool, true, false, not, cond, List, ℕ, ◌+◌, ◌*◌, ◌%◌, ◌^◌, ◌≤◌, Option, Some, None, length, ltb}
use Rattle.std.specs.Option.{unwrap_or}
use Rattle.std.specs.List.{fold, position_or_len}
use Rattle.std.proofs.Common.{refl, ap, ◌∙◌, arith, ltb-false}
use Rattle.std.proofs.lemmas.List.Sums.{prefix_len-le-length}
use Rattle.std.proofs.lemmas.List.Folds.{fold_along}
use Rattle.hex_digits.specs.Hex.{digit_of}
use Rattle.signs.specs.Numbers.{value}

-- the place that a search answers, or the length
chosen : (b : Bool) (k n : ℕ) → ltb k n ≡ b → k ≤ n → unwrap_or (cond b (Some k) None) n ≡ k
chosen true k n e h = refl
chosen false k n e h = let l : n ≤ k = ltb-false k n e in omega arith

pub place_is : (p : ℕ → Bool) (xs : List ℕ) (r : Option ℕ) (at : ℕ) → r ≡ cond (ltb (position_or_len p xs) (length xs)) (Some (position_or_len p xs)) None → at ≡ unwrap_or r (length xs) → at ≡ position_or_len p xs
place_is p xs r at e f = f ∙ ap (λ (o : Option ℕ). unwrap_or o (length xs)) e ∙ chosen _ _ _ refl (prefix_len-le-length (λ x. not (p x)) xs)

-- a digit more, in sixteen digits
abbrev pub longer : ℕ → ℕ → ℕ
longer v d = (v * 16 % 2 ^ 64 + digit_of d) % 2 ^ 64

longer_is : (v w k : ℕ) → v ≡ w % 2 ^ 64 → (v * 16 % 2 ^ 64 + k) % 2 ^ 64 ≡ (w * 16 + k) % 2 ^ 64
longer_is v w k e = omega arith

pub value_is : (digits : List ℕ) → fold longer 0 digits ≡ value digits
value_is digits =
    fold_along longer (λ v d. v * 16 + digit_of d) (λ (v w : ℕ). v ≡ w % 2 ^ 64) (λ v w d e. longer_is v w (digit_of d) e) 0 0 digits refl
