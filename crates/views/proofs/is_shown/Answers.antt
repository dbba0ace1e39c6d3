-- In each arm the view is known.
use borrow.Author.Rules.{rules}
use Rattle.views.specs.Laws.{showing}
use Rattle.views.proofs.is_shown.Goals as goal

pub returns-in-All : goal.returns-in-All
returns-in-All c = search (showing, rules)

pub returns-in-Page : goal.returns-in-Page
returns-in-Page c = search (showing, rules)

pub returns-in-Map : goal.returns-in-Map
returns-in-Map c = search (showing, rules)
