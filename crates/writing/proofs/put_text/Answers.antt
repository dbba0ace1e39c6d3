-- `put_text` meets its promise: the text is laid whole where it fits, and not at all where it does not.
use Rattle.std.proofs.Common.{arith, refl}
use Rattle.tools.specs.Laid.{put_not}
use Rattle.writing.specs.Pieces.{copied_over}
use Rattle.writing.proofs.put_text.Goals as goal
use Rattle.writing.proofs.put_text.Goals.{then-out-n-via-then-out-n, then-out-n-via-else-out-n+then-out-n-2}

pub returns-then-out-n : goal.returns-then-out-n
returns-then-out-n c =
    elim c.then-out-n.branch [
      | then-out-n-via-then-out-n w ↦ put_not _ _ _ _ refl (omega arith)
      | then-out-n-via-else-out-n+then-out-n-2 w ↦ put_not _ _ _ _ refl (omega arith)
    ]

pub returns : goal.returns
returns c = copied_over _ _ _ _ _ refl c.copy_from_slice.ensures.after (omega arith)
