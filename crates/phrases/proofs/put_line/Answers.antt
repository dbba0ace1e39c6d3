-- `put_line` meets its promise: the line is put whole where there is room for the longest, and not at all where there is not.
use Rattle.std.proofs.Common.{arith}
use Rattle.phrases.specs.Text.{line_put, line_not}
use Rattle.phrases.proofs.put_line.Goals as goal
use Rattle.phrases.proofs.put_line.Goals.{then-out-lt-LONGEST-via-then-out-lt-LONGEST, then-out-lt-LONGEST-via-else-out-lt-LONGEST+then-out-at}

pub returns-then-out-lt-LONGEST : goal.returns-then-out-lt-LONGEST
returns-then-out-lt-LONGEST c =
    elim c.then-out-lt-LONGEST.branch [
      | then-out-lt-LONGEST-via-then-out-lt-LONGEST w ↦ line_not _ _ _ (omega arith)
      | then-out-lt-LONGEST-via-else-out-lt-LONGEST+then-out-at w ↦ line_not _ _ _ (omega arith)
    ]

pub returns : goal.returns
returns c = line_put _ _ _ _ _ _ _ (omega arith) c.put_pieces-e.ensures c.put_end.ensures
