-- There is room for every answer, so one feed answers all the complete lines, and what it leaves has no newline.
use borrow.Author.Rules.{rules}
use Rattle.lines.specs.Close.{close_inside}
use Rattle.inputs.proofs.Served.{serves}
use Rattle.waiting.proofs.answer_read.Goals as goal

pub slice_bounds-feed-end : goal.slice_bounds-feed-end
slice_bounds-feed-end c = search (rules, close_inside)

pub returns : goal.returns
returns c = search serves
