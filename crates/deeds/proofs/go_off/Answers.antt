-- What is read of the core, made OFF and stored is the table with the core OFF.
use borrow.Author.Rules.{rules}
use Rattle.deeds.specs.Laws.{changes}
use Rattle.deeds.proofs.go_off.Goals as goal

pub returns : goal.returns
returns c = search (rules, changes)
