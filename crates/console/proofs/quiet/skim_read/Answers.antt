-- All that was heard is fed, and what it leaves goes to the front.
use borrow.Author.Rules.{rules}
use Rattle.lines.specs.Close.{close_inside}
use Rattle.console.proofs.Skimming.{read_taken}
use Rattle.console.proofs.quiet.skim_read.Goals as goal

pub slice_bounds-skim-end : goal.slice_bounds-skim-end
slice_bounds-skim-end c = search (rules, close_inside)

pub returns : goal.returns
returns c = search read_taken
