-- Each way out is a case of the definition.
use borrow.Author.Rules.{rules}
use Rattle.counting.specs.Laws.{aparts}
use Rattle.counting.proofs.is_apart.Goals as goal

pub returns-then-line-eq48 : goal.returns-then-line-eq48
returns-then-line-eq48 c = search (aparts, rules)

pub returns-then-line-eq2 : goal.returns-then-line-eq2
returns-then-line-eq2 c = search (aparts, rules)

pub returns : goal.returns
returns c = search (aparts, rules)
