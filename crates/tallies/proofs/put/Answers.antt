-- A place inside is written, and past the last nothing changes.
use borrow.Author.Rules.{rules}
use Rattle.tools.specs.Store.{stores}
use Rattle.tallies.proofs.put.Goals as goal

pub returns-then-i-lt318 : goal.returns-then-i-lt318
returns-then-i-lt318 c = search (rules, stores)

pub returns-else-i-lt318 : goal.returns-else-i-lt318
returns-else-i-lt318 c = search (rules, stores)
