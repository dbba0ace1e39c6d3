-- The number is read.
use borrow.Author.Rules.{rules}
use Rattle.origins.specs.Lines.{lines_are}
use Rattle.origins.proofs.lines_in.Goals as goal

pub returns : goal.returns
returns c = search (rules, lines_are)
