-- A line that counts is judged and set down.
use borrow.Author.Rules.{rules}
use Rattle.mending.specs.Laws.{takes}
use Rattle.mending.proofs.take_line.Goals as goal

pub returns-then-counts : goal.returns-then-counts
returns-then-counts c = search (takes, rules)

pub returns-else-counts : goal.returns-else-counts
returns-else-counts c = search (takes, rules)
