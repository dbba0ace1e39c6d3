-- Each way out is a case of the definition.
use borrow.Author.Rules.{rules}
use Rattle.views.specs.Laws.{holdings}
use Rattle.views.proofs.holds.Goals as goal

pub returns-in_default : goal.returns-in_default
returns-in_default c = search (holdings, rules)

pub returns-in_default-p : goal.returns-in_default-p
returns-in_default-p c = search (holdings, rules)

pub returns-then-page-first : goal.returns-then-page-first
returns-then-page-first c = search (holdings, rules)

pub returns : goal.returns
returns c = search (holdings, rules)
