-- A place inside is read, and one past the last is 0.
use borrow.Author.Rules.{rules}
use Rattle.tools.specs.Store.{stores}
use Rattle.tallies.proofs.count_at.Goals as goal

pub returns-then-i-lt318 : goal.returns-then-i-lt318
returns-then-i-lt318 c = search (rules, stores)

pub returns : goal.returns
returns c = search (rules, stores)
