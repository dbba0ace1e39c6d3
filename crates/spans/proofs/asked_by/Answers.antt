-- The row is that of the identifier that the call reads.
use Rattle.std.proofs.Common.{rules}
use Rattle.spans.specs.Laws.{asking}
use Rattle.spans.proofs.asked_by.Goals as goal

pub returns-in_err-t : goal.returns-in_err-t
returns-in_err-t c = search (asking, rules)

pub returns : goal.returns
returns c = search (asking, rules)
