-- Each kind of answer has its branch.
use borrow.Author.Rules.{rules}
use Rattle.tallies.specs.Rows.{row_laws}
use Rattle.tallies.proofs.row_of.Goals as goal

pub returns-then-x-lt-SMALL : goal.returns-then-x-lt-SMALL
returns-then-x-lt-SMALL c = search (row_laws, rules)

pub returns-then-x-eq-POWER_VERSION : goal.returns-then-x-eq-POWER_VERSION
returns-then-x-eq-POWER_VERSION c = search (row_laws, rules)

pub returns-then-x-eq-VERSION : goal.returns-then-x-eq-VERSION
returns-then-x-eq-VERSION c = search (row_laws, rules)

pub returns-then-x-lt-SHORTS : goal.returns-then-x-lt-SHORTS
returns-then-x-lt-SHORTS c = search (row_laws, rules)

pub returns-then-x-lt4294967296 : goal.returns-then-x-lt4294967296
returns-then-x-lt4294967296 c = search (row_laws, rules)

pub returns-then-x-lt-LONGS : goal.returns-then-x-lt-LONGS
returns-then-x-lt-LONGS c = search (row_laws, rules)

pub returns : goal.returns
returns c = search (row_laws, rules)
