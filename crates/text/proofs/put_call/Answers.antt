-- `text::put_call` meets its promise: the text is put whole where it fits, and not at all where it does not.
use Rattle.std.proofs.Common.{rules, arith}
use Rattle.text.specs.Text.{call_put, call_not}
use Rattle.text.proofs.put_call.Goals as goal
use Rattle.text.proofs.put_call.Goals.{then-out-lt-LONGEST-via-then-out-lt-LONGEST, then-out-lt-LONGEST-via-else-out-lt-LONGEST+then-out-at}

pub returns-then-out-lt-LONGEST : goal.returns-then-out-lt-LONGEST
returns-then-out-lt-LONGEST c =
    elim c.then-out-lt-LONGEST.branch [
      | then-out-lt-LONGEST-via-then-out-lt-LONGEST w ↦ call_not _ _ _ _ _ _ _ _ (omega arith)
      | then-out-lt-LONGEST-via-else-out-lt-LONGEST+then-out-at w ↦ call_not _ _ _ _ _ _ _ _ (omega arith)
    ]

pub returns : goal.returns
returns c = call_put _ _ _ _ _ _ _ _ _ _ _ _ _ _ (search rules) c.put_head-a.ensures c.put_numbers-b.ensures c.put_end.ensures
