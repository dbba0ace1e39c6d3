-- A page inside is read, and one past the last is 0.
use borrow.Author.Rules.{rules}
use Rattle.origins.specs.Origins.{looks}
use Rattle.origins.proofs.line_of.Goals as goal

pub returns-then-page-lt-MOST_PAGES : goal.returns-then-page-lt-MOST_PAGES
returns-then-page-lt-MOST_PAGES c = search (rules, looks)

pub returns : goal.returns
returns c = search (rules, looks)
