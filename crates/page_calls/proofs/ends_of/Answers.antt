-- The way that the pages go picks the two ends.
use Rattle.rules.specs.Choice.{picked, passed}
use Rattle.page_calls.specs.Laws.{ends_of}
use Rattle.page_calls.proofs.ends_of.Goals as goal

pub returns-then-t : goal.returns-then-t
unfolding ends_of
returns-then-t c = search (picked, passed)

pub returns : goal.returns
unfolding ends_of
returns c = search (picked, passed)
