-- `mark_for` meets its promise, since its two cases are those of the mark for a page.
use Rattle.conversions.specs.Laws.{mark_here, mark_past}
use borrow.Author.Rules.{rules}
use Rattle.conversions.proofs.numbers.mark_for.Goals as goal

pub returns-then-page-n : goal.returns-then-page-n
returns-then-page-n c = mark_here _ _ _ _ _ (search rules) c.owner.ensures c.mark_of.ensures

pub returns-else-page-n : goal.returns-else-page-n
returns-else-page-n c = mark_past _ _ _ (search rules)
