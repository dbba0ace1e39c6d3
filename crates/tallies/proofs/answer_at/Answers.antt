-- Each kind of row has its branch.
use borrow.Author.Rules.{rules}
use Rattle.tallies.specs.Rows.{answer_laws}
use Rattle.tallies.proofs.answer_at.Goals as goal

pub returns-then-r-lt-SMALL : goal.returns-then-r-lt-SMALL
returns-then-r-lt-SMALL c = search (answer_laws, rules)

pub returns-then-r-lt10 : goal.returns-then-r-lt10
returns-then-r-lt10 c = search (answer_laws, rules)

pub returns-then-r-lt-SHORT : goal.returns-then-r-lt-SHORT
returns-then-r-lt-SHORT c = search (answer_laws, rules)

pub returns-then-r-lt-LONG : goal.returns-then-r-lt-LONG
returns-then-r-lt-LONG c = search (answer_laws, rules)

pub returns-then-r-lt-ROWS : goal.returns-then-r-lt-ROWS
returns-then-r-lt-ROWS c = search (answer_laws, rules)

pub returns : goal.returns
returns c = search (answer_laws, rules)
