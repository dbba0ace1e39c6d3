-- Each way out is a case of the definition.
use borrow.Author.Rules.{rules}
use Rattle.views.specs.Laws.{abouts}
use Rattle.views.proofs.is_about.Goals as goal

pub returns-in_default : goal.returns-in_default
returns-in_default c = search (abouts, rules)

pub returns-then-asks_for : goal.returns-then-asks_for
returns-then-asks_for c = search (abouts, rules)

pub returns-then-is_done : goal.returns-then-is_done
returns-then-is_done c = search (abouts, rules)

pub returns : goal.returns
returns c = search (abouts, rules)
