-- What is read of the core, handed over and stored is the table with the core handed over.
use borrow.Author.Rules.{rules}
use Rattle.deeds.specs.Laws.{changes}
use Rattle.deeds.proofs.hand_over.Goals as goal

pub returns : goal.returns
returns c = search (rules, changes)
