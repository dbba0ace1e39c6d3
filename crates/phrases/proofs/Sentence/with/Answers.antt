-- `Sentence::with` meets its promise: the piece is written behind the last one, or there is no room.
use Rattle.phrases.specs.Sentence.{withs}
use borrow.Author.Rules.{rules}
use Rattle.phrases.proofs.Sentence.with.Goals as goal

pub returns-then-n-lt-PIECES : goal.returns-then-n-lt-PIECES
returns-then-n-lt-PIECES c = search (withs, rules)

pub returns-else-n-lt-PIECES : goal.returns-else-n-lt-PIECES
returns-else-n-lt-PIECES c = search (withs, rules)
