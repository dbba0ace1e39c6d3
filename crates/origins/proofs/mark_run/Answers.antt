-- The run is filled at once, where the table has room for it.
use borrow.Author.Rules.{rules}
use Rattle.std.proofs.Common.{arith}
use Rattle.origins.specs.Origins.{mark_none, mark_filled}
use Rattle.origins.proofs.mark_run.Goals as goal
use Rattle.origins.proofs.mark_run.Goals.{then-first-gt-MOST_PAGES-via-then-first-gt-MOST_PAGES, then-first-gt-MOST_PAGES-via-else-first-gt-MOST_PAGES+then-first-count}

pub returns-then-first-gt-MOST_PAGES : goal.returns-then-first-gt-MOST_PAGES
returns-then-first-gt-MOST_PAGES c =
    mark_none _ _ _ _
    (elim c.then-first-gt-MOST_PAGES.branch [ then-first-gt-MOST_PAGES-via-then-first-gt-MOST_PAGES w ↦ omega arith | then-first-gt-MOST_PAGES-via-else-first-gt-MOST_PAGES+then-first-count w ↦ omega arith ])

pub returns : goal.returns
returns c = mark_filled _ _ _ _ _ (search rules) (search rules) (search rules)
