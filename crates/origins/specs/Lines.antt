-- How many lines came.
use Rattle.std.specs.Prelude.{◌≡◌, List, ℕ, ◌+◌, ◌≤◌, ◌<◌, ltb, length, get_or, set, replicate, min}
use Rattle.std.proofs.Math.Path.{refl}
use Rattle.std.proofs.Common.{ap, ◌∙◌, arith, length-set, get_or-set_same, lt-ltb, ltb-true, ltb-false}
use mathlib.Core.Bool.{true, false}
use Rattle.std.proofs.lemmas.List.{length-replicate, set-get_or}
use Rattle.rules.specs.Choice.{pick, picked, passed, pick_yes, either}

-- the highest number that there is room for
abbrev pub most : ℕ
most = 0xFFFFFFFFFFFFFFFF

-- ---- shut
-- no line came
pub no_line : List ℕ
no_line = replicate 1 0

-- so many came: the number of the last one
pub lines_in : List ℕ → ℕ
lines_in t = get_or t 0 0

-- one more; past the highest number there is room for, no more is counted
pub one_more : List ℕ → List ℕ
one_more t = pick (ltb (get_or t 0 0) most) (set t 0 (get_or t 0 0 + 1)) t

-- there is a place for the number
pub WholeLines : List ℕ → Type 0
WholeLines t = length t ≡ 1

-- ---- how the code meets these
pub no_line_is : replicate 1 0 ≡ no_line
unfolding no_line
no_line_is = refl

module _ (t : List ℕ) where
  pub lines_are : get_or t 0 0 ≡ lines_in t
  unfolding lines_in
  lines_are = refl

  -- the number grows up to the highest that there is room for
  pub counts : (n : ℕ) → get_or t 0 0 ≤ most → n ≡ min (get_or t 0 0 + 1) most → set t 0 n ≡ one_more t
  unfolding one_more
  counts n fits e =
      either (ltb (get_or t 0 0) most)
      (λ y. picked _ _ _ _ y (let z : n ≡ get_or t 0 0 + 1 = omega (arith, ltb-true _ _ y) in rw z))
      (λ k. passed _ _ _ _ k (let z : n ≡ get_or t 0 0 = omega (arith, ltb-false _ _ k) in rw z (set-get_or t 0 0)))

-- ---- the number of the last line
pub first_lines : lines_in no_line ≡ 0
unfolding lines_in no_line
first_lines = refl

pub first_whole : WholeLines no_line
unfolding WholeLines no_line
first_whole = length-replicate {A = ℕ} 1 0

pub more_whole : (t : List ℕ) → WholeLines t → WholeLines (one_more t)
unfolding WholeLines one_more pick
more_whole t w = whole_by (ltb (get_or t 0 0) most)
  where
    whole_by : (b : mathlib.Core.Bool.Bool) → length (pick b (set t 0 (get_or t 0 0 + 1)) t) ≡ 1
    whole_by true = length-set t 0 (get_or t 0 0 + 1) ∙ w
    whole_by false = w

pub more_lines : (t : List ℕ) → WholeLines t → lines_in t < most → lines_in (one_more t) ≡ lines_in t + 1
unfolding WholeLines lines_in one_more
more_lines t w h = ap (λ (q : List ℕ). get_or q 0 0) (pick_yes _ _ _ (lt-ltb (get_or t 0 0) most h)) ∙ get_or-set_same t 0 (get_or t 0 0 + 1) 0 (omega arith)
