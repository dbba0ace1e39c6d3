-- In each arm the answer is known.
use borrow.Author.Rules.{rules}
use Rattle.mending.specs.Laws.{status_called}
use Rattle.mending.proofs.status_of.Goals as goal

pub returns-in-Called : goal.returns-in-Called
returns-in-Called c = search (status_called, rules)
