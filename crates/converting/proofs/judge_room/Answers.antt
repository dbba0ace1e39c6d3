-- `judge_room` meets its promise, since each test is a part of what cramped means, and where none holds there is room.
use Rattle.std.proofs.Common.{sym, refl}
use borrow.Author.Rules.{rules}
use Rattle.converting.specs.Outcomes.{cramped_none, cramped_many, cramped_bytes, cramped_numbers, roomy}
use Rattle.converting.proofs.judge_room.Goals as goal
use Rattle.converting.proofs.judge_room.Goals.{then-n-eq0-via-then-n-eq0, then-n-eq0-via-else-n-eq0+then-n-gt-MOST_PAGES, then-bytes-n-via-then-bytes-n, then-bytes-n-via-else-bytes-n+then-numbers-n}

pub returns-then-n-eq0 : goal.returns-then-n-eq0
returns-then-n-eq0 c = (
  refl,
  elim c.then-n-eq0.branch [
    | then-n-eq0-via-then-n-eq0 w ↦ sym (cramped_none _ _ _ (search rules))
    | then-n-eq0-via-else-n-eq0+then-n-gt-MOST_PAGES w ↦ sym (cramped_many _ _ _ (search rules))
  ],
)

pub returns-then-bytes-n : goal.returns-then-bytes-n
returns-then-bytes-n c = (
  refl,
  elim c.then-bytes-n.branch [
    | then-bytes-n-via-then-bytes-n w ↦ sym (cramped_bytes _ _ _ (search rules))
    | then-bytes-n-via-else-bytes-n+then-numbers-n w ↦ sym (cramped_numbers _ _ _ (search rules))
  ],
)

pub returns : goal.returns
returns c = (refl, sym (roomy _ _ _ (search rules) (search rules) (search rules) (search rules)))
