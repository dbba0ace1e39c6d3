-- A notice is put whole where it fits, and not at all where it does not.
use Rattle.std.proofs.Common.{arith}
use Rattle.sheets.specs.Sheet.{notice_not, notice_put}
use Rattle.sheets.proofs.put_notice.Goals as goal
use Rattle.sheets.proofs.put_notice.Goals.{then-out-lt-NOTICE-via-then-out-lt-NOTICE, then-out-lt-NOTICE-via-else-out-lt-NOTICE+then-out-at}

pub returns-then-out-lt-NOTICE : goal.returns-then-out-lt-NOTICE
returns-then-out-lt-NOTICE c =
    elim c.then-out-lt-NOTICE.branch [
      | then-out-lt-NOTICE-via-then-out-lt-NOTICE w ↦ notice_not _ _ _ _ (omega arith)
      | then-out-lt-NOTICE-via-else-out-lt-NOTICE+then-out-at w ↦ notice_not _ _ _ _ (omega arith)
    ]

pub returns : goal.returns
returns c = notice_put _ _ _ _ _ _ _ _ _ _ (omega arith) c.put_number-a.ensures c.put_byte-b.ensures c.put_end.ensures
