-- Each thing that an entry may say has its answer.
use borrow.Author.Rules.{rules}
use Rattle.vetting.specs.Answers.{answers}
use Rattle.vetting.proofs.answers.answer_of.Goals as goal

pub returns-in-Nothing : goal.returns-in-Nothing
returns-in-Nothing c = search (rules, answers)

pub returns-in-Table : goal.returns-in-Table
returns-in-Table c = search (rules, answers)

pub returns-in-Leaf : goal.returns-in-Leaf
returns-in-Leaf c = search (rules, answers)
