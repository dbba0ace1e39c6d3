-- A line is put whole where it fits, and not at all where it does not.
use Rattle.std.proofs.Common.{arith}
use Rattle.sheets.specs.Sheet.{line_not, line_put}
use Rattle.sheets.proofs.put_line.Goals as goal
use Rattle.sheets.proofs.put_line.Goals.{then-out-line-via-then-out-line, then-out-line-via-else-out-line+then-out-line-2}

pub returns-then-out-line : goal.returns-then-out-line
returns-then-out-line c =
    elim c.then-out-line.branch [
      | then-out-line-via-then-out-line w ↦ line_not _ _ _ (omega arith)
      | then-out-line-via-else-out-line+then-out-line-2 w ↦ line_not _ _ _ (omega arith)
    ]

pub returns : goal.returns
returns c = line_put _ _ _ _ _ _ _ (omega arith) c.put_text-a.ensures c.put_end.ensures
