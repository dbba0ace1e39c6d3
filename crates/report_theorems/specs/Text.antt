-- The text of a report as a list of rows: one for each place of the table whose count is not 0.
use Rattle.std.specs.Prelude.{◌≡◌, refl, List, [], ◌∷◌, ◌++◌, ℕ, zero, suc, ◌+◌, ◌/◌, ◌%◌, ◌≤◌, ◌<◌, ltb, eqb}
use Rattle.std.proofs.Common.{ap, inl, inr, arith, ltb-true, ltb-false, eqb-true}
use Rattle.std.proofs.lemmas.Bool.{eqb-false}
use Rattle.rules.specs.Choice.{pick, either}
use Rattle.tallies.specs.Rows.{rows, row_of, answer_at, answer_row, rows_ascend}
use Rattle.tallies.specs.Tally.{places, count_at, place_of}
use Rattle.report_text.specs.Report.{line_text, line_at, lines_from}
use Rattle.report_theorems.specs.Lists.{Each, Among}
use Rattle.report_theorems.specs.Statements.{Row, Before, Ascends, rows_text, sum_of}
use Rattle.report_theorems.specs.Table.{sum_from}

-- the row of a place
abbrev pub row_at : List ℕ → ℕ → Row
row_at t i = (i / rows, (answer_at (i % rows), count_at t i))

-- the rows of n places, from place i on
unfoldable pub rows_from : List ℕ → ℕ → ℕ → List Row
rows_from t i zero = []
rows_from t i (suc n) = pick (eqb (count_at t i) 0) [] (row_at t i ∷ []) ++ rows_from t (suc i) n

pub rows_text_lem : (t : List ℕ) (i n : ℕ) → lines_from t i n ≡ rows_text (rows_from t i n)
unfolding lines_from line_at rows_from rows_text pick
rows_text_lem t i zero = refl
rows_text_lem t i (suc n) =
    either (eqb (count_at t i) 0) (λ y. rw y (rows_text_lem t (suc i) n)) (λ k. rw k (ap (λ (l : List ℕ). line_text (i / rows) (answer_at (i % rows)) (count_at t i) ++ l) (rows_text_lem t (suc i) n)))

pub rows_sum : (t : List ℕ) (i n : ℕ) → sum_of (rows_from t i n) ≡ sum_from t i n
unfolding sum_from rows_from sum_of pick
rows_sum t i zero = refl
rows_sum t i (suc n) =
    either (eqb (count_at t i) 0) (λ y. rw y (omega (arith, eqb-true (count_at t i) 0 y, rows_sum t (suc i) n))) (λ k. rw k (omega (arith, rows_sum t (suc i) n)))

-- what is so of each row whose count is not 0
pub rows_each : (P : Row → Type 0) (t : List ℕ) (i n : ℕ) → ((j : ℕ) → i ≤ j → j < i + n → (count_at t j ≡ 0 → ⊥) → P (row_at t j)) → Each P (rows_from t i n)
unfolding rows_from Each pick
rows_each P t i zero f = tt
rows_each P t i (suc n) f =
    let rest = rows_each P t (suc i) n (λ j a b. f j (omega arith) (omega arith)) in
    either (eqb (count_at t i) 0) (λ y. rw y rest) (λ k. rw k (f i (omega arith) (omega arith) (eqb-false _ _ k), rest))

-- ---- in order
ordered : (t : List ℕ) (i j : ℕ) → i < j → j < places → Before (row_at t i) (row_at t j)
ordered t i j h l =
    either (ltb (i / rows) (j / rows)) (λ y. inl (ltb-true _ _ y))
    (λ n. let k = ltb-false (i / rows) (j / rows) n in inr (omega arith, rows_ascend (i % rows) (j % rows) (omega arith) (omega arith)))

pub rows_in_order : (t : List ℕ) (i n : ℕ) → i + n ≤ places → Ascends (rows_from t i n)
unfolding rows_from Ascends pick
rows_in_order t i zero h = tt
rows_in_order t i (suc n) h =
    let rest = rows_in_order t (suc i) n (omega arith) in
    either (eqb (count_at t i) 0) (λ y. rw y rest) (λ k. rw k (rows_each (Before (row_at t i)) t (suc i) n (λ j a b c. ordered t i j (omega arith) (omega arith)), rest))

-- ---- and complete
pub row_among : (t : List ℕ) (j : ℕ) → (count_at t j ≡ 0 → ⊥) → (i n : ℕ) → i ≤ j → j < i + n → Among (row_at t j) (rows_from t i n)
unfolding rows_from Among pick
row_among t j c i zero h l = absurd (omega arith)
row_among t j c i (suc n) h l =
    either (eqb i j)
    (λ y. let e : i ≡ j = eqb-true i j y in either (eqb (count_at t i) 0) (λ z. absurd (c (rw (← e) (eqb-true _ _ z)))) (λ z. rw z (inl (rw e))))
    (λ k.
    let d : i ≡ j → ⊥ = eqb-false i j k in
    let rest = row_among t j c (suc i) n (omega (arith, d)) (omega arith) in
    either (eqb (count_at t i) 0) (λ z. rw z rest) (λ z. rw z (inr rest)))

-- the row of a pair's place
pub row_is : (t : List ℕ) (world x : ℕ) → row_of x < rows → row_at t (place_of world x) ≡ (world, (x, count_at t (place_of world x)))
row_is t world x h =
    let a : place_of world x / rows ≡ world = omega arith in
    let b : place_of world x % rows ≡ row_of x = omega arith in
    rw (a, b, answer_row x h)
