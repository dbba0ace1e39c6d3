-- `text::put_status` meets its promise: the text is put whole where it fits, and not at all where it does not.
use Rattle.std.proofs.Common.{rules, arith}
use Rattle.text.specs.Text.{status_put, status_not}
use Rattle.text.proofs.put_status.Goals as goal
use Rattle.text.proofs.put_status.Goals.{then-out-lt-STATUS-via-then-out-lt-STATUS, then-out-lt-STATUS-via-else-out-lt-STATUS+then-out-at}

pub returns-then-out-lt-STATUS : goal.returns-then-out-lt-STATUS
returns-then-out-lt-STATUS c =
    elim c.then-out-lt-STATUS.branch [
      | then-out-lt-STATUS-via-then-out-lt-STATUS w ↦ status_not _ _ _ (omega arith)
      | then-out-lt-STATUS-via-else-out-lt-STATUS+then-out-at w ↦ status_not _ _ _ (omega arith)
    ]

pub returns : goal.returns
returns c = status_put _ _ _ _ _ _ _ _ _ _ c.from.ensures (search rules) c.put_byte-a.ensures c.put_byte-b.ensures c.put_end.ensures
