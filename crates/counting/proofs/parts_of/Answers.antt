-- The parts are those of the identifier in x0.
use borrow.Author.Rules.{rules}
use Rattle.counting.specs.Laws.{parts_called}
use Rattle.counting.proofs.parts_of.Goals as goal

pub returns : goal.returns
returns c = search (parts_called, rules)
