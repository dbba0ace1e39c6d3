use borrow.Author.Rules.{rules}
use Rattle.vetting.specs.Reached.{saying}
use Rattle.vetting.proofs.reached.slot_of.Goals as goal

pub returns-in-Table : goal.returns-in-Table
returns-in-Table c = search (rules, saying)
