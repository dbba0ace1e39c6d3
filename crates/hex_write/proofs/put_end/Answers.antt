-- `hex_write::put_end` meets its promise: a newline is one byte.
use borrow.Author.Rules.{rules}
use Rattle.hex_write.specs.Put.{end_put, end_not}
use Rattle.hex_write.proofs.put_end.Goals as goal

pub returns-then-at-out : goal.returns-then-at-out
returns-then-at-out c = end_put _ _ (search rules)

pub returns : goal.returns
returns c = end_not _ _ (search rules)
