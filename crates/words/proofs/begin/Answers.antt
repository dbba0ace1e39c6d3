-- `begin` meets its promise, since the table is that of the definition.
use Rattle.words.specs.Words.{words}
use Rattle.words.specs.Joined.{table, begin_is}
use borrow.Author.Rules.{rules}
use Rattle.words.proofs.begin.Goals as goal

pub returns : goal.returns
unfolding table words
returns c = begin_is _ _ (search rules)
