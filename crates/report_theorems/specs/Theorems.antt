-- The theorems of a report, of any input whatever.
-- Which line stands between two runs, a line more behind any complete lines, and runs beside each other.
use Rattle.std.specs.Prelude.{◌≡◌, refl, ◌&&◌, List, [], ◌∷◌, ℕ, ◌<◌, eqb}
use Rattle.std.proofs.Common.{◌∙◌, arith, eqb-true}
use Rattle.rules.specs.Choice.{pick, pick_no, either, left_true, right_true}
use Rattle.hex_digits.specs.Hex.{digit_of, all_digits, value}
use Rattle.tools.specs.Search.{all}
use Rattle.parsing.specs.Frame.{no_hex, sized, kind, frame_of, parsed_frame}
use Rattle.parsing.specs.declared.Status.TheVariants.{Unknown}
use Rattle.parsing.specs.declared.Frame.TheVariants as Frame
use Rattle.lines.specs.Input.{reading}
use Rattle.frames.specs.Frames.{Machine, framed}
use Rattle.showing.specs.declared.Reply.TheVariants.{Told}
use Rattle.counting.specs.Counted.{Counted, counted}
use Rattle.report_theorems.specs.Lists.{Each}
use Rattle.report_theorems.specs.Statements.{Possible, occurs}
use Rattle.report_theorems.specs.Possible.{all_possible}
pub use Rattle.report_theorems.specs.Runs.{zeros_separate, zeros_alone, line_more, runs_part, first_part, last_part, either_order}

-- ---- what is counted
-- Whatever the input, each counted pair is a possible one: so the table has a place for it.
pub any_possible : (input : List ℕ) → Each Possible (counted input)
any_possible = all_possible

-- ---- the report
-- what occurs among possible pairs is possible
pub occurs_possible : (world x : ℕ) (cs : List Counted) → Each Possible cs → 0 < occurs world x cs → Possible (world, x)
unfolding occurs Each
occurs_possible world x [] e h = absurd (omega arith)
occurs_possible world x (c ∷ cs) e h =
    either (eqb c.0 world && eqb c.1 x)
    (λ y.
    let a : c.0 ≡ world = eqb-true _ _ (left_true (eqb c.0 world) _ y) in
    let b : c.1 ≡ x = eqb-true _ _ (right_true (eqb c.0 world) _ y) in
    record { some_world = rw a at e.0.some_world; last_world = rw a at e.0.last_world; answer = rw b at e.0.answer })
    (λ n. occurs_possible world x cs e.1 (omega (arith, h, pick_no {A = ℕ} (eqb c.0 world && eqb c.1 x) 1 0 n)))

-- ---- the monitor
zeros_unknown : frame_of (48 ∷ 48 ∷ []) ≡ Frame.Refused Unknown
unfolding frame_of no_hex kind sized all_digits all digit_of value pick
zeros_unknown = refl

-- A line of 00 is none of its frames: it is answered with 72 and changes nothing.
pub monitor_unknown : (m : Machine) → framed m (reading (48 ∷ 48 ∷ [])).0 (reading (48 ∷ 48 ∷ [])).1 ≡ (m, Told Unknown)
unfolding framed
monitor_unknown m = rw (parsed_frame (48 ∷ 48 ∷ []) [] (reading (48 ∷ 48 ∷ [])).1 (reading (48 ∷ 48 ∷ [])).0 refl ∙ zeros_unknown)
