-- What mending makes of a set-up file: a verdict on each line, taking the kept ones before it as given; the kept lines, and the numbers of the dropped ones.
use Rattle.std.specs.Prelude.{List, [], ◌∷◌, ◌++◌, ℕ, ◌+◌, eqb, ltb, length}
use Rattle.rules.specs.Choice.{pick}
use Rattle.lines.specs.Lines.{lines_of}
use Rattle.frames.specs.Frames.{Machine, first}
use Rattle.sheets.specs.Sheet.{most, line_text, dropped_text, too_many}
use Rattle.mending.specs.Judged.{judged_line}

-- ---- the verdicts
-- the machine that a line leaves for the next one
abbrev pub onward : Machine → List ℕ → Machine
onward m l = (judged_line m l).0

-- one for each line
unfoldable pub verdicts : Machine → List (List ℕ) → List ℕ
verdicts m [] = []
verdicts m (l ∷ ls) = (judged_line m l).1 ∷ verdicts (onward m l) ls

-- ---- what comes of verdicts
-- the lines with status 0 are kept
unfoldable pub kept_by : List ℕ → List (List ℕ) → List (List ℕ)
kept_by [] ls = []
kept_by (v ∷ vs) [] = []
kept_by (v ∷ vs) (l ∷ ls) = pick (eqb v 0) (l ∷ kept_by vs ls) (kept_by vs ls)

-- the others are dropped: their numbers, from n on, and statuses
unfoldable pub dropped_by : ℕ → List ℕ → List (ℕ × ℕ)
dropped_by n [] = []
dropped_by n (v ∷ vs) = pick (eqb v 0) (dropped_by (n + 1) vs) ((n, v) ∷ dropped_by (n + 1) vs)

-- ---- as text
unfoldable pub kept_text : List (List ℕ) → List ℕ
kept_text [] = []
kept_text (l ∷ ls) = line_text l ++ kept_text ls

unfoldable pub notices_text : List (ℕ × ℕ) → List ℕ
notices_text [] = []
notices_text (d ∷ ds) = dropped_text d.0 d.1 ++ notices_text ds

-- of lines: those that are kept, and a notice for each that is dropped, numbered from 1; one notice alone for more than 512
unfoldable pub mended_text : List (List ℕ) → List ℕ
mended_text ls =
    pick (ltb most (length ls)) too_many
    (kept_text (kept_by (verdicts first ls) ls) ++ notices_text (dropped_by 1 (verdicts first ls)))

-- of an input
abbrev pub mended : List ℕ → List ℕ
mended input = mended_text (lines_of input)
