-- `take_line` meets its promise: a line that is shown is told from what it left behind.
use Rattle.explaining.specs.Laws.{line_told, line_hidden}
use borrow.Author.Rules.{rules}
use Rattle.explaining.proofs.take_line.Goals as goal

pub returns-then-seen : goal.returns-then-seen
returns-then-seen c = search (line_told, rules)

pub returns : goal.returns
returns c = search (line_hidden, rules)
