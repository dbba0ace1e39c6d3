-- The row is that of the identifier that the call reads.
use Rattle.spans.specs.Laws.{asking_over}
use borrow.Author.Rules.{rules}
use Rattle.spans.proofs.asks_over.Reads as reads
use Rattle.spans.proofs.asks_over.Goals as goal

pub returns-in_default : goal.returns-in_default
returns-in_default c = search (asking_over, rules)

pub returns : goal.returns
returns c = search (asking_over, rules)
