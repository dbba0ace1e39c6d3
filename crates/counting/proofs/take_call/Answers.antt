-- A call is tried, and what came of it is noted.
use borrow.Author.Rules.{rules}
use Rattle.counting.specs.Laws.{call_counted}
use Rattle.counting.proofs.take_call.Goals as goal

pub returns : goal.returns
returns c = search (call_counted, rules)
