-- `table` meets its promise, since the entries of an accepted package lie inside it.
use Rattle.std.proofs.Common.{sym, ◌∙◌}
use Rattle.fip_entries.specs.Faults.{accepted_is, refused_is}
use Rattle.fip_read.specs.Reading.{tabling, untabled}
use Rattle.fip_read.specs.Accepted.{accepted_least, table_inside}
use borrow.Author.Rules.{rules}
use Rattle.fip_read.proofs.table.Goals as goal

pub returns-then-is_err : goal.returns-then-is_err
returns-then-is_err c = untabled _ (λ e. refused_is _ (search rules) (c.judge.ensures ∙ e))

pub behind-requires : goal.behind-requires
behind-requires c = accepted_least _ (sym (accepted_is _ (search rules)) ∙ c.judge.ensures)

pub slice_bounds-result-end-2 : goal.slice_bounds-result-end-2
slice_bounds-result-end-2 c = let h = table_inside _ _ _ c.behind.ensures c.count_of.ensures (sym (accepted_is _ (search rules)) ∙ c.judge.ensures) in
    search rules

pub returns : goal.returns
returns c = tabling _ _ _ c.behind.ensures c.count_of.ensures c.entry-e.result (sym (accepted_is _ (search rules)) ∙ c.judge.ensures) (search rules)
