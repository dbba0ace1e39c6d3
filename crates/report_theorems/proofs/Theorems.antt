-- The theorems of a report, of any input whatever.
use Rattle.std.specs.Prelude.{◌≡◌, refl, Bool, true, false, List, ℕ, ◌+◌, ◌-◌, ◌/◌, ◌%◌, ◌<◌, min, ltb, length}
use Rattle.std.proofs.Common.{ap, ◌∙◌, arith}
use Rattle.rules.specs.Choice.{pick, pick_yes, pick_no, by}
use Rattle.tools.specs.Search.{all}
use Rattle.tools.specs.Store.{read}
use Rattle.parsing.specs.declared.Frame.TheVariants as Frame
use Rattle.lines.specs.Meant.{meant}
use Rattle.frames.specs.Frames.{first}
use Rattle.tallies.specs.Rows.{rows, row_of, answer_at, row_answer}
use Rattle.tallies.specs.Tally.{most, places, size, nothing, count_at, total, over, place_of}
use Rattle.report_text.specs.Report.{report_text, report_short}
use Rattle.counting.specs.Counted.{meaning, counted_of, counted}
use Rattle.guarantees.specs.Runs.{Event, Events, next, reply, ran}
use Rattle.guarantees.specs.Fit.{ran_fit}
use Rattle.report_theorems.specs.Lists.{each_so, each_take}
use Rattle.report_theorems.specs.Statements.{Possible, CountedLine, accepted, table, occurs, million, Reported}
use Rattle.report_theorems.specs.Possible.{Placed, placed, all_possible}
use Rattle.report_theorems.proofs.Accepted.{line_counted, length_counted}
use Rattle.report_theorems.specs.Table.{Tells, tells, nothing_sane, total_nothing, over_nothing}
use Rattle.report_theorems.specs.Text.{row_at, rows_from, rows_text_lem, rows_sum, rows_each, rows_in_order, row_among, row_is}
use Rattle.report_theorems.specs.Theorems.{occurs_possible}

-- After any lines of a run, the next line counts once where it is an accepted call, and else not at all.
pub any_line : (run : Events) (e : Event) → let m = ran first run in CountedLine m e (next m e) (reply m e) (counted_of m e.0 e.1)
any_line run e = line_counted (ran first run) (ran_fit run) e

-- So many are counted as there are accepted calls.
pub any_accepted : (input : List ℕ) → length (counted input) ≡ accepted input
unfolding counted
any_accepted input = length_counted (meant meaning input) first

-- ---- the table
module _ (input : List ℕ) where
  told : Tells nothing (table input) (counted input)
  told = tells (counted input) nothing nothing_sane (each_so Possible Placed placed (counted input) (all_possible input))

  -- Each count is how often its pair occurs among the first million.
  pub any_count : (world x : ℕ) → world < 4 → row_of x < rows → count_at (table input) (place_of world x) ≡ occurs world x (million input)
  any_count world x w r =
      let e = told.counts world x w r in
      let z : most - total nothing ≡ most = omega (arith, total_nothing) in
      let n : count_at nothing (place_of world x) ≡ 0 = omega (arith, nothing_sane.under (place_of world x) (omega arith), total_nothing) in
      e ∙ rw (z, n) (omega arith)

  -- What was counted in all is the number of accepted calls, or a million where there were more.
  pub any_total : total (table input) ≡ min (accepted input) 1000000
  any_total = omega (arith, told.all, total_nothing, any_accepted input)

  -- The mark of a call too many stands exactly where there were more.
  pub any_over : over (table input) ≡ ltb 1000000 (accepted input)
  any_over =
      let z : total nothing + length (counted input) ≡ accepted input = omega (arith, total_nothing, any_accepted input) in
      let q : read size (table input) (places + 1) ≡ pick (ltb 1000000 (accepted input)) 1 0 = told.marked ∙ rw (z, over_nothing) in
      ap (λ (n : ℕ). ltb 0 n) q ∙ marks (ltb 1000000 (accepted input))
    where
      marks : (b : Bool) → ltb 0 (pick b 1 0) ≡ b
      marks b = by (λ (c : Bool). ltb 0 (pick c 1 0) ≡ c) b (λ y. rw (pick_yes {A = ℕ} true 1 0 refl)) (λ n. rw (pick_no {A = ℕ} false 1 0 refl))

module _ (input : List ℕ) where
  -- a row of the table is of a pair that occurs
  row_counts : (j : ℕ) → j < places → (count_at (table input) j ≡ 0 → ⊥)
      → let r = row_at (table input) j in Possible (r.0, r.1.0) × ((0 < r.1.1) × (r.1.1 ≡ occurs r.0 r.1.0 (million input)))
  row_counts j h n =
      let r : row_of (answer_at (j % rows)) ≡ j % rows = row_answer (j % rows) (omega arith) in
      let p : place_of (j / rows) (answer_at (j % rows)) ≡ j = omega (arith, r) in
      let c : count_at (table input) j ≡ occurs (j / rows) (answer_at (j % rows)) (million input) =
      rw p at (any_count input (j / rows) (answer_at (j % rows)) (omega arith) (omega (arith, r))) in
      let s : 0 < count_at (table input) j = omega (arith, n) in
      (occurs_possible _ _ (million input) (each_take Possible 1000000 (counted input) (all_possible input)) (omega arith), (s, c))

  pair_row : (world x : ℕ) → 0 < occurs world x (million input) → Placed (world, x)
  pair_row world x h = placed _ (occurs_possible world x (million input) (each_take Possible 1000000 (counted input) (all_possible input)) h)

  -- What is printed for an input is its report.
  pub any_report : Reported input (report_text (table input))
  unfolding report_text
  any_report =
      let t = table input in
      record {
        rows = rows_from t 0 places;
        is = rw (any_over input, rows_text_lem t 0 places);
        fits = omega (arith, report_short t);
        ascends = rows_in_order t 0 places (omega arith);
        counts = rows_each _ t 0 places (λ j a b n. row_counts j (omega arith) n);
        complete = λ world x h.
            let q = pair_row world x h in
            let c = any_count input world x q.world q.row in
            let k = row_among t (place_of world x) (λ z. omega (arith, c)) 0 places (omega arith) (omega (arith, q.world, q.row)) in
            rw (row_is t world x q.row, c) at k;
        sum = rows_sum t 0 places ∙ (told input).sane.sums ∙ any_total input;
      }
