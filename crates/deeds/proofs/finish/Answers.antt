-- What is read of the core, finished and stored is the table with the core finished.
use borrow.Author.Rules.{rules}
use Rattle.deeds.specs.Laws.{changes}
use Rattle.deeds.proofs.finish.Goals as goal

pub returns : goal.returns
returns c = search (rules, changes)
