-- Between two runs all is fresh, and any other line is a frame.
use borrow.Author.Rules.{rules}
use Rattle.counting.specs.Laws.{lines_taken}
use Rattle.counting.proofs.take_line.Goals as goal

pub returns-then-between : goal.returns-then-between
returns-then-between c = search (lines_taken, rules)

pub returns : goal.returns
returns c = search (lines_taken, rules)
