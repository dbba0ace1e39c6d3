-- In each arm the frame is known.
use borrow.Author.Rules.{rules}
use Rattle.counting.specs.Laws.{whose_call}
use Rattle.counting.proofs.core_of.Goals as goal

pub returns-in-Call : goal.returns-in-Call
returns-in-Call c = search (whose_call, rules)
