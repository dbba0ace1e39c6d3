-- `is_stray` meets its promise, since its two cases are those of a wrong mark.
use Rattle.conversions.specs.Laws.{mark_of_page, mark_of_none}
use borrow.Author.Rules.{rules}
use Rattle.conversions.proofs.numbers.is_stray.Goals as goal

pub returns-then-page-n : goal.returns-then-page-n
returns-then-page-n c = search (mark_of_page, rules)

pub returns-else-page-n : goal.returns-else-page-n
returns-else-page-n c = search (mark_of_none, rules)
