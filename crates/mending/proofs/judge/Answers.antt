-- A call or an arrival does nothing, and any other frame is answered.
use borrow.Author.Rules.{rules}
use Rattle.mending.specs.Laws.{judges}
use Rattle.mending.proofs.judge.Goals as goal

pub returns-then-is_later : goal.returns-then-is_later
returns-then-is_later c = search (judges, rules)

pub returns : goal.returns
returns c = search (judges, rules)
