-- Each way out is a case of the definition.
use borrow.Author.Rules.{rules}
use Rattle.views.specs.Laws.{mappings}
use Rattle.views.proofs.mapped_in.Goals as goal

pub returns-then-q : goal.returns-then-q
returns-then-q c = search (mappings, rules)

pub returns-in_default : goal.returns-in_default
returns-in_default c = search (mappings, rules)

pub returns-then-q-2 : goal.returns-then-q-2
returns-then-q-2 c = search (mappings, rules)

pub returns : goal.returns
returns c = search (mappings, rules)
