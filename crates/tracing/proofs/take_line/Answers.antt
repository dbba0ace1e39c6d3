-- Each call did its part of the line.
use borrow.Author.Rules.{rules}
use Rattle.tracing.specs.Laws.{line_traced}
use Rattle.tracing.proofs.take_line.Goals as goal

pub returns : goal.returns
returns c = search (line_traced, rules)
