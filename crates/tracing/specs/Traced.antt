-- A run with its lines counted, and for each page the number of the line that named its owner.
use Rattle.std.specs.Prelude.{List, ℕ, None, Option, Some}
use Rattle.spans.specs.Named.{Pages}
use Rattle.spans.specs.declared.Span.{Span}
use Rattle.parsing.specs.declared.Frame.{Frame}
use Rattle.setup.specs.Table.{window}
use Rattle.frames.specs.Frames.{Machine, first, framed}
use Rattle.outcomes.specs.Outcomes.{came}
use Rattle.outcomes.specs.declared.Came.{Came}
use Rattle.origins.specs.Origins.{none, marked}
use Rattle.origins.specs.Lines.{no_line, lines_in, one_more}
use Rattle.spans.specs.Spans.{named}

-- what is kept from line to line: the machine, the table of origins, and how many lines came
abbrev pub Kept : Type 0
Kept = Machine × (List ℕ × List ℕ)

-- before the first line
abbrev pub start : Kept
start = (first, (none, no_line))

-- a line is noted for the pages that it names owners for
unfoldable pub noted : List ℕ → ℕ → Option Span → List ℕ
noted t line (Some s) = marked t s.first s.count line
noted t line None = t

-- what is kept after a line
unfoldable pub after_line : Kept → Frame × List ℕ → Kept
after_line k e =
    let m = k.0 in
    let lines = one_more k.1.1 in
    ((framed m e.0 e.1).0, (noted k.1.0 (lines_in lines) (named (window m.setup) e.0 e.1 (came m e.0 e.1)), lines))

-- that, and what came of the line
unfoldable pub traced_line : Kept → Frame × List ℕ → Kept × Came
traced_line k e = (after_line k e, came k.0 e.0 e.1)
