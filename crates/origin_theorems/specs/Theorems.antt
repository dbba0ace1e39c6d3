-- The theorems: after any lines, whatever their bytes, the owner and the line that stand for each page are those of demand 3.
use Rattle.std.specs.Prelude.{◌≡◌, ℕ, ◌+◌, ◌≤◌, ◌<◌, None, Option, Some}
use Rattle.std.proofs.Math.Path.{refl, sym, ap, subst}
use Rattle.std.proofs.Common.{◌∙◌, length-append}
use mathlib.Core.List.{List, [], ◌∷◌, ◌++◌}
use native.Mathlib.Omega.{arith}
use Rattle.std.proofs.Math.ListN.{length}
use Rattle.std.proofs.lemmas.List.{length-map}
use Rattle.spans.specs.Named.{Pages}
use Rattle.spans.specs.declared.Span.{Span}
use Rattle.rules.specs.Choice.{yes_or_no}
use Rattle.pages.specs.Owners.{owner}
use Rattle.lines.specs.Lines.{lines_of}
use Rattle.lines.specs.Meant.{meant}
use Rattle.lines.specs.Input.{reading, readings}
use Rattle.frames.specs.Frames.{Machine, first}
use Rattle.inputs.specs.Folds.{folded, left, folded_two}
use Rattle.origins.specs.Origins.{WholeOrigins, none, origin, none_whole, none_origin, marked_whole}
use Rattle.origins.specs.Lines.{most, WholeLines, no_line, lines_in, one_more, first_lines, first_whole, more_whole, more_lines}
use Rattle.tracing.specs.Traced.{Kept, start, noted, after_line}
use Rattle.guarantees.specs.Runs.{Event, Events, byte, next, ran, always}
use Rattle.guarantees.specs.Fit.{Fit, first_fit, fit_next}
use Rattle.guarantees.specs.Named.{Unmoved, Unnamed, LastTransfer, NamedBy}
use Rattle.guarantees.specs.Owners.{Gives, moves, names, Outcome, gave, kept, transfer_ends, naming_is}
use Rattle.guarantees.proofs.Owners.{outcome, ended_stays, ended_unnamed, marked_unnamed, unmoved_later, named_owner}
use Rattle.origin_theorems.specs.Statements.{NamedAt, by_transfer, by_set_up, as_before, is_named, OriginsAre}
use Rattle.origin_theorems.specs.Marked.{gives_marks, none_marks}

-- ---- what is so from line to line
record Good (k : Kept) : Type 0 where
  fit : Fit k.0
  origins : WholeOrigins k.1.0
  lines : WholeLines k.1.1

noted_whole : (t : List ℕ) (line : ℕ) (s : Option Span) → WholeOrigins t → WholeOrigins (noted t line s)
unfolding noted
noted_whole t line (Some s) w = marked_whole t s.first s.count line w
noted_whole t line None w = w

good_next : (k : Kept) (e : Event) → Good k → Good (after_line k e)
unfolding after_line
good_next k e g = record { fit = fit_next k.0 e g.fit; origins = noted_whole _ _ _ g.origins; lines = more_whole k.1.1 g.lines }

good_start : Good start
good_start = record { fit = first_fit; origins = none_whole; lines = first_whole }

good_after : (run : Events) (k : Kept) → Good k → Good (folded after_line k run)
unfolding folded
good_after [] k g = g
good_after (e ∷ rest) k g = good_after rest (after_line k e) (good_next k e g)

machine_after : (run : Events) (k : Kept) → (folded after_line k run).0 ≡ ran k.0 run
unfolding folded ran after_line
machine_after [] k = refl
machine_after (e ∷ rest) k = machine_after rest (after_line k e)

count_after : (run : Events) (k : Kept) → Good k → lines_in k.1.1 + length run ≤ most → lines_in (folded after_line k run).1.1 ≡ lines_in k.1.1 + length run
unfolding folded after_line
count_after [] k g h = omega arith
count_after (e ∷ rest) k g h =
    let z = more_lines k.1.1 g.lines (omega arith) in
    count_after rest (after_line k e) (good_next k e g) (omega (arith, z)) ∙ omega (arith, z)

module _ (page : ℕ) where
  -- ---- a run that starts after n lines, with a line that was noted for the page before
  data From (m : Machine) (run : Events) (n noted : ℕ) : ℕ → ℕ → Type 0 where
    moved : {to : ℕ} → (l : LastTransfer m run page to) → From m run n noted to (n + (length l.before + 1))
    set_up : {to : ℕ} → Unmoved m run page → (l : NamedBy m run page to) → From m run n noted to (n + (length l.before + 1))
    before : Unmoved m run page → Unnamed m run page → From m run n noted (owner m.owners page) noted

  -- the run with one line before it
  module _ (k : Kept) (g : Good k) (e : Event) (rest : Events) (few : lines_in k.1.1 < most) where
    abbrev n : ℕ
    n = lines_in k.1.1

    abbrev Longer : ℕ → ℕ → Type 0
    Longer to line = From k.0 (e ∷ rest) n (origin k.1.0 page) to line

    number : lines_in (one_more k.1.1) ≡ n + 1
    number = more_lines k.1.1 g.lines few

    longer : (to line : ℕ) → From (next k.0 e) rest (lines_in (one_more k.1.1)) (origin (after_line k e).1.0 page) to line → Longer to line
    unfolding Unmoved Unnamed ran after_line
    longer to line (moved l) =
        let z : n + (length (e ∷ l.before) + 1) ≡ lines_in (one_more k.1.1) + (length l.before + 1) = omega (arith, number) in
        subst (Longer to) z (moved (record { before = e ∷ l.before; line = l.line; later = l.later; stands = ap (λ (q : Events). e ∷ q) l.stands; granted = l.granted; last = l.last }))
    longer to line (set_up u l) =
        let z : n + (length (e ∷ l.before) + 1) ≡ lines_in (one_more k.1.1) + (length l.before + 1) = omega (arith, number) in
        subst (Longer to) z
        (set_up (
          λ v t.
              yes_or_no _ (ended_stays page l.before (next k.0 e) (transfer_ends k.0 e page v t))
              (naming_is (ran (next k.0 e) l.before) l.line page (always Fit fit_next (next k.0 e) l.before (fit_next k.0 e g.fit)) to l.named).in_time,
          u,
        )
        (record { before = e ∷ l.before; line = l.line; later = l.later; stands = ap (λ (q : Events). e ∷ q) l.stands; named = l.named }))
    longer to line (before u w) = by_outcome (outcome k.0 g.fit e page)
      where
        marks : (v : ℕ) → Gives k.0 e page v → n + 1 ≡ origin (after_line k e).1.0 page
        marks v t = sym (gives_marks k.0 g.fit e page k.1.0 g.origins _ v t ∙ number)

        by_outcome : Outcome k.0 e page (next k.0 e) → Longer (owner (next k.0 e).owners page) (origin (after_line k e).1.0 page)
        by_outcome (gave v (moves t) o) =
            subst (Longer _) (marks v (moves t)) (rw o (moved (record { before = []; line = e; later = rest; stands = refl; granted = t; last = u })))
        by_outcome (gave v (names t) o) =
            subst (Longer _) (marks v (names t)) (rw o (set_up (λ v h. omega (arith, ap byte (sym h.is_call ∙ t.is_name)), u) (record { before = []; line = e; later = rest; stands = refl; named = t })))
        by_outcome (kept none o) =
            rw (o, none_marks k.0 g.fit e page k.1.0 g.origins _ none) (before (λ v h. none v (moves h), u) (λ v h. none v (names h), w))

  named_from : (run : Events) (k : Kept) → Good k → lines_in k.1.1 + length run ≤ most
      → From k.0 run (lines_in k.1.1) (origin k.1.0 page) (owner (folded after_line k run).0.owners page) (origin (folded after_line k run).1.0 page)
  unfolding folded Unmoved Unnamed after_line
  named_from [] k g h = before tt tt
  named_from (e ∷ rest) k g h =
      let few : lines_in k.1.1 < most = omega arith in
      longer k g e rest few _ _ (named_from rest (after_line k e) (good_next k e g) (omega (arith, number k g e rest few)))

  -- from the first line on
  from_start : {run : Events} {to line : ℕ} → From first run (lines_in no_line) (origin none page) to line → NamedAt first run page to line
  from_start {run} {to} (moved l) = let z : length l.before + 1 ≡ lines_in no_line + (length l.before + 1) = omega (arith, first_lines) in subst (NamedAt first run page to) z (by_transfer l)
  from_start {run} {to} (set_up u l) = let z : length l.before + 1 ≡ lines_in no_line + (length l.before + 1) = omega (arith, first_lines) in subst (NamedAt first run page to) z (by_set_up u l)
  from_start (before u w) = rw (none_origin page) (as_before u w)

  -- ---- no other line
  -- lines that name no owner of the page leave what was noted
  origin_kept : (run : Events) (k : Kept) → Good k → Unmoved k.0 run page → Unnamed k.0 run page → origin (folded after_line k run).1.0 page ≡ origin k.1.0 page
  unfolding folded Unmoved Unnamed after_line
  origin_kept [] k g u w = refl
  origin_kept (e ∷ rest) k g u w =
      origin_kept rest (after_line k e) (good_next k e g) u.1 w.1 ∙ none_marks k.0 g.fit e page k.1.0 g.origins _ neither
    where
      neither : (to : ℕ) → Gives k.0 e page to → ⊥
      neither to (moves t) = u.0 to t
      neither to (names t) = w.0 to t

  -- a line that does is noted, and stays where no later one does
  module _ (earlier : Events) (e : Event) (later : Events) (few : length earlier + length (e ∷ later) ≤ most) where
    abbrev k : Kept
    k = folded after_line start earlier

    good : Good k
    good = good_after earlier start good_start

    noted_last : (to : ℕ) → Gives (ran first earlier) e page to → Unmoved (next (ran first earlier) e) later page → Unnamed (next (ran first earlier) e) later page
        → origin (folded after_line start (earlier ++ e ∷ later)).1.0 page ≡ length earlier + 1
    unfolding folded after_line
    noted_last to t u w =
        let m : k.0 ≡ ran first earlier = machine_after earlier start in
        let c : lines_in k.1.1 ≡ lines_in no_line + length earlier = count_after earlier start good_start (omega (arith, first_lines)) in
        let z = more_lines k.1.1 good.lines (omega (arith, c, first_lines)) in
        rw (folded_two after_line reading start earlier (e ∷ later))
        (origin_kept later (after_line k e) (good_next k e good) (rw m u) (rw m w)
        ∙ gives_marks k.0 good.fit e page k.1.0 good.origins _ to (rw m t)
        ∙ omega (arith, z, c, first_lines))

  line_alone : (run : Events) → length run ≤ most → (to line : ℕ) → NamedAt first run page to line → origin (folded after_line start run).1.0 page ≡ line
  line_alone run few to line (by_transfer l) =
      let n = ran first l.before in
      let f = always Fit fit_next first l.before first_fit in
      let z = length-append l.before (l.line ∷ l.later) in
      rw l.stands
      (noted_last l.before l.line l.later (rw (l.stands, z) at few) to (moves l.granted) l.last
      (ended_unnamed page l.later (next n l.line) (fit_next n l.line f) (transfer_ends n l.line page to l.granted)))
  line_alone run few to line (by_set_up u l) =
      let n = ran first l.before in
      let f = always Fit fit_next first l.before first_fit in
      let z = length-append l.before (l.line ∷ l.later) in
      rw l.stands
      (noted_last l.before l.line l.later (rw (l.stands, z) at few) to (names l.named) (unmoved_later page l.before first l.line l.later (rw l.stands at u))
      (marked_unnamed page l.later (next n l.line) (fit_next n l.line f) (naming_is n l.line page f to l.named).marked))
  line_alone run few to line (as_before u w) = origin_kept run start good_start u w ∙ none_origin page

-- ---- after any lines
-- A run of so many lines as a number of 64 bits can count.
pub any_run : (run : Events) → length run ≤ most → OriginsAre run (folded after_line start run)
any_run run few =
    record {
      machine = machine_after run start;
      counted = let z = count_after run start good_start (omega (arith, first_lines)) in omega (arith, z, first_lines);
      named = λ page. from_start page (named_from page run start good_start (omega (arith, first_lines)));
      alone = λ page to line h. (rw (machine_after run start) (named_owner page run first to first_fit (is_named h)), line_alone page run few to line h);
      last = λ page to earlier e later is t u. line_alone page run few to _ (by_transfer (record { before = earlier; line = e; later = later; stands = is; granted = t; last = u }));
    }

-- So it is after any bytes, by their lines.
pub any_input : (input : List ℕ) → length (lines_of input) ≤ most → OriginsAre (readings input) (left after_line reading start input)
unfolding left meant
any_input input few = any_run (readings input) (omega (arith, length-map (lines_of input) reading))
