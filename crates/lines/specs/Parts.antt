-- An input cut in two: its complete lines, and the line that is not finished.
use Rattle.std.specs.Prelude.{◌≡◌, refl, Bool, true, false, ◌||◌, List, [], ◌∷◌, ◌++◌, ℕ, eqb}
use Rattle.std.proofs.Common.{ap}
use Rattle.rules.specs.Choice.{pick, either, yes_or_no}
use Rattle.lines.specs.Lines.{before, lines_of}

-- one of the bytes is a newline
unfoldable pub broken : List ℕ → Bool
broken [] = false
broken (b ∷ bs) = eqb b 10 || broken bs

-- the bytes up to the last newline, with it
unfoldable pub complete : List ℕ → List ℕ
complete [] = []
complete (b ∷ bs) = pick (broken (b ∷ bs)) (b ∷ complete bs) []

-- the bytes behind the last newline
unfoldable pub unfinished : List ℕ → List ℕ
unfinished [] = []
unfinished (b ∷ bs) = pick (broken (b ∷ bs)) (unfinished bs) (b ∷ bs)

-- together they are the input
pub both_parts : (a : List ℕ) → complete a ++ unfinished a ≡ a
unfolding complete unfinished pick
both_parts [] = refl
both_parts (b ∷ bs) =
    either (broken (b ∷ bs)) (λ y. rw y (ap (λ (l : List ℕ). b ∷ l) (both_parts bs))) (λ n. rw n)

-- and the second has no newline
pub unfinished_unbroken : (a : List ℕ) → broken (unfinished a) ≡ false
unfolding unfinished pick broken
unfinished_unbroken [] = refl
unfinished_unbroken (b ∷ bs) = either (broken (b ∷ bs)) (λ y. rw y (unfinished_unbroken bs)) (λ n. rw n n)

-- ---- the lines of the two parts are those of the input
-- a byte before the lines of some bytes leaves the lines behind them
some_line : (b : ℕ) (bs : List ℕ) (rest : List (List ℕ)) (x : ℕ) → before x (lines_of (b ∷ bs) ++ rest) ≡ before x (lines_of (b ∷ bs)) ++ rest
unfolding lines_of before pick
some_line b bs rest x =
    either (eqb b 10) (λ y. rw y) (λ n. rw n (by_lines (lines_of bs)))
  where
    by_lines : (ls : List (List ℕ)) → before x (before b ls ++ rest) ≡ before x (before b ls) ++ rest
    by_lines [] = refl
    by_lines (l ∷ ls) = refl

pub lines_parts : (a s : List ℕ) → lines_of (complete a ++ s) ≡ lines_of (complete a) ++ lines_of s
unfolding complete lines_of pick broken
lines_parts [] s = refl
lines_parts (b ∷ bs) s =
    either (broken (b ∷ bs))
    (λ y. rw y (either (eqb b 10)
    (λ e. rw e (ap (λ (ls : List (List ℕ)). [] ∷ ls) (lines_parts bs s)))
    (λ e. rw (e, lines_parts bs s) (held bs s b (rw e at y)))))
    (λ n. rw n)
  where
    held : (bs s : List ℕ) (b : ℕ) → broken bs ≡ true → before b (lines_of (complete bs) ++ lines_of s) ≡ before b (lines_of (complete bs)) ++ lines_of s
    held [] s b y = absurd (yes_or_no (broken []) y refl)
    held (c ∷ cs) s b y = rw y (some_line c (complete cs) (lines_of s) b)
