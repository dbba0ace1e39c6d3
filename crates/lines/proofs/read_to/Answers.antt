-- `lines::read_to` meets its promise: the line ends where its newline is, and without one there is nothing.
use borrow.Author.Rules.{rules}
use Rattle.lines.specs.Lines.{next_found, next_none, end_low}
use Rattle.lines.proofs.read_to.Goals as goal

pub slice_bounds-parse-count : goal.slice_bounds-parse-count
slice_bounds-parse-count c = search (end_low, rules)

pub slice_bounds-parse-start : goal.slice_bounds-parse-start
slice_bounds-parse-start c = search (end_low, rules)

pub returns-then-e-s : goal.returns-then-e-s
returns-then-e-s c = search (next_found, rules)

pub returns : goal.returns
returns c = search (next_none, rules)
