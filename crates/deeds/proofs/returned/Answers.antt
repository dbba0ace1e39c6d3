-- Realm's finish returns five numbers, any other four.
use borrow.Author.Rules.{rules}
use Rattle.deeds.specs.Laws.{counts}
use Rattle.deeds.proofs.returned.Goals as goal

pub returns-then-world-eq-REALM : goal.returns-then-world-eq-REALM
returns-then-world-eq-REALM c = search (rules, counts)

pub returns : goal.returns
returns c = search (rules, counts)
