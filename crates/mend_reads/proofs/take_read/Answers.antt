-- All that was heard is fed, and what it leaves goes to the front.
use borrow.Author.Rules.{rules}
use Rattle.mend_reads.specs.Reading.{read_taken}
use Rattle.lines.specs.Close.{close_inside}
use Rattle.mend_reads.proofs.take_read.Goals as goal

pub slice_bounds-feed-end : goal.slice_bounds-feed-end
slice_bounds-feed-end c = search (rules, close_inside)

pub returns : goal.returns
returns c = search read_taken
