-- The two leads are compared.
use borrow.Author.Rules.{rules}
use Rattle.vetting.specs.Answers.{answers}
use Rattle.vetting.proofs.answers.is_otherwise.Goals as goal

pub returns : goal.returns
returns c = search (rules, answers)
