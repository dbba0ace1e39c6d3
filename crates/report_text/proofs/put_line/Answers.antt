-- A line is put whole where it fits, and not at all where it does not.
use Rattle.std.proofs.Common.{rules, arith}
use Rattle.report_text.specs.Report.{line_put, line_not, pair_room}
use Rattle.report_text.proofs.put_line.Goals as goal
use Rattle.report_text.proofs.put_line.Goals.{then-out-lt-LINE-via-then-out-lt-LINE, then-out-lt-LINE-via-else-out-lt-LINE+then-out-at}

pub returns-then-out-lt-LINE : goal.returns-then-out-lt-LINE
returns-then-out-lt-LINE c =
    elim c.then-out-lt-LINE.branch [
      | then-out-lt-LINE-via-then-out-lt-LINE w ↦ line_not _ _ _ _ _ (omega arith)
      | then-out-lt-LINE-via-else-out-lt-LINE+then-out-at w ↦ line_not _ _ _ _ _ (omega arith)
    ]

pub put_pair-b-requires : goal.put_pair-b-requires
put_pair-b-requires c = pair_room _ _ _ _ _ (search rules) c.put_head-a.ensures

pub returns : goal.returns
returns c = line_put _ _ _ _ _ _ _ _ _ _ _ (search rules) c.put_head-a.ensures c.put_pair-b.ensures c.put_end.ensures
