-- Blanks and decimal digits as parts of a row, put where they fit.
use Rattle.std.specs.Prelude.{◌≡◌, refl, List, ℕ, ◌≤◌, ◌<◌, ltb, min, length, take, replicate}
use Rattle.std.proofs.Math.Path.{ap, sym}
use Rattle.std.proofs.Common.{◌∙◌, length-take, take_all, ltb-true, ltb-false}
use native.Mathlib.Omega.{arith}
use Rattle.rules.specs.Choice.{either}
use Rattle.tools.specs.Laid.{put}
use Rattle.io.specs.Digits.{last_digits, IsDigitCount}
use Rattle.writing.specs.Decimal.{decimal_text, decimal_is}

-- 96 blanks
unfoldable pub row : List ℕ
row = replicate 96 32

length_row : length row ≡ 96
unfolding row
length_row = refl

-- n blanks, at most 96
unfoldable pub blanks : ℕ → List ℕ
blanks n = take n row

pub length_blanks : (n : ℕ) → (length (blanks n) ≤ 96) × (length (blanks n) ≤ n)
unfolding blanks
length_blanks n = (omega (arith, length-take n row, length_row), omega (arith, length-take n row))

-- ---- a part of the row
module _ (o r96 : List ℕ) (at n m : ℕ) (is : r96 ≡ row) (r : ℕ) (p : List ℕ) where
  pub some_blanks : (text : List ℕ) → m ≡ min n 96 → text ≡ take m r96 → (r, p) ≡ put o at text → (r, p) ≡ put o at (blanks n)
  unfolding blanks
  some_blanks text f e h =
      let few : take m row ≡ take n row =
      either (ltb n 96)
      (λ y. let a : n < 96 = ltb-true _ _ y in let z : m ≡ n = omega arith in rw z)
      (λ y. let a : 96 ≤ n = ltb-false _ _ y in let z : m ≡ 96 = omega arith in rw z (take_all 96 row (omega (arith, length_row)) ∙ sym (take_all n row (omega (arith, length_row))))) in
      h ∙ ap (put o at) (e ∙ rw is few)

-- ---- a number
pub decimal_put :
    (o p ds text : List ℕ) (at x n r : ℕ) → n ≤ 20 → IsDigitCount 10 1 x n → take n ds ≡ last_digits 10 n x
    → text ≡ take n ds → (r, p) ≡ put o at text → (r, p) ≡ put o at (decimal_text x)
decimal_put o p ds text at x n r h f d e q = q ∙ ap (put o at) (e ∙ d ∙ decimal_is 20 n x h f)
