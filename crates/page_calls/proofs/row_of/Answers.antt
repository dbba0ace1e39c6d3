-- Each arm knows its handler and its key, so its row.
use Rattle.page_calls.specs.Laws.{table}
use Rattle.page_calls.proofs.row_of.Goals as goal

pub returns-in-3288334768 : goal.returns-in-3288334768
returns-in-3288334768 c = search table depth 20

pub returns-in-3288334769 : goal.returns-in-3288334769
returns-in-3288334769 c = search table depth 20

pub returns-in_default : goal.returns-in_default
returns-in_default c = search table depth 20

pub returns-in-3254779920 : goal.returns-in-3254779920
returns-in-3254779920 c = let h = rw c.read_args.ensures at c.row-in-3254779920.ensures in search (table, h) depth 20

pub returns-in-3254779921 : goal.returns-in-3254779921
returns-in-3254779921 c = let h = rw c.read_args-in-3254779921.ensures at c.row-in-3254779921.ensures in search (table, h) depth 20

pub returns-in_default-key : goal.returns-in_default-key
returns-in_default-key c = search table depth 20

pub returns : goal.returns
returns c = search table depth 20
