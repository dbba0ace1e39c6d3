-- There is room for the words of every line, so one feed tells all the complete lines, and what it leaves goes to the front.
use Rattle.lines.specs.Close.{close_inside}
use Rattle.explain_reads.specs.Reading.{read_spoken}
use borrow.Author.Rules.{rules}
use Rattle.explain_reads.proofs.take_read.Goals as goal

pub slice_bounds-feed-end : goal.slice_bounds-feed-end
slice_bounds-feed-end c = search (rules, close_inside)

pub returns : goal.returns
returns c = search read_spoken
