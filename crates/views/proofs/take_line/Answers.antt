-- Each call did its part of the line.
use borrow.Author.Rules.{rules}
use Rattle.views.specs.Laws.{line_seen}
use Rattle.views.proofs.take_line.Goals as goal

pub returns : goal.returns
returns c = search (line_seen, rules)
