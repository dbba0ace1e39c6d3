-- Each branch is a case of the definition.
use borrow.Author.Rules.{rules}
use Rattle.tallies.specs.Tally.{mores}
use Rattle.tallies.proofs.one_more.Goals as goal

pub returns-then-n-lt-MOST : goal.returns-then-n-lt-MOST
returns-then-n-lt-MOST c = search (rules, mores)

pub returns : goal.returns
returns c = search (rules, mores)
