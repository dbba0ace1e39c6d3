-- What is read of the target, started and stored is the table with the target started.
use borrow.Author.Rules.{rules}
use Rattle.deeds.specs.Laws.{changes}
use Rattle.deeds.proofs.start.Goals as goal

pub returns : goal.returns
returns c = search (rules, changes)
