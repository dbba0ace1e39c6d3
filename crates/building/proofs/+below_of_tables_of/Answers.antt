use native.Mathlib.Omega.{arith}
use Rattle.building.specs.Gaps.{gap_inside, count_passed}
use Rattle.building.specs.Writing.{inside_below, part_inside, count_starts, count_fits, count_goes, count_ends}
use borrow.Author.Rules.{rules}
use Rattle.building.proofs.+below_of_tables_of.Goals as goal

pub below_of-tables_of-requires : goal.below_of-tables_of-requires
below_of-tables_of-requires t c = (omega arith, inside_below _ _ c.requires (search rules))

pub tables_of-loop-i-init : goal.tables_of-loop-i-init
tables_of-loop-i-init t c = (search rules, count_starts _ _ _)

pub tables_of-part_of-requires : goal.tables_of-part_of-requires
tables_of-part_of-requires t c = (c.requires, search rules)

pub tables_of-overflow_add-i : goal.tables_of-overflow_add-i
tables_of-overflow_add-i t c = omega (arith, c.gap_of-i.ensures.few)

pub tables_of-returns-then-i-ge-ENTRIES : goal.tables_of-returns-then-i-ge-ENTRIES
tables_of-returns-then-i-ge-ENTRIES t c = count_ends _ _ _ _ _ (count_passed _ _ _ _ _ _ c.part_of.ensures c.gap_of-i.ensures _ c.loop-i.invariant.1) (search rules) (gap_inside _ _ _ _ _ _ c.part_of.ensures c.gap_of-i.ensures (search rules))

pub tables_of-part_of-requires-in-loop-i : goal.tables_of-part_of-requires-in-loop-i
tables_of-part_of-requires-in-loop-i t c = (c.requires, search rules)

pub tables_of-below_of-n-requires : goal.tables_of-below_of-n-requires
tables_of-below_of-n-requires t c = (omega arith, part_inside _ _ _ c.requires (search rules) _ c.part_of-in-loop-i.ensures)

pub tables_of-overflow_add-n : goal.tables_of-overflow_add-n
tables_of-overflow_add-n t c = omega (arith, count_fits _ _ _ _ _ (count_passed _ _ _ _ _ _ c.part_of.ensures c.gap_of-i.ensures _ c.loop-i.invariant.1) _ _ c.part_of-in-loop-i.ensures c.below_of-n.ensures c.requires.level (search rules))

pub tables_of-loop-i-preserved : goal.tables_of-loop-i-preserved
tables_of-loop-i-preserved t c = (search rules, count_goes _ _ _ _ _ (count_passed _ _ _ _ _ _ c.part_of.ensures c.gap_of-i.ensures _ c.loop-i.invariant.1) _ _ c.part_of-in-loop-i.ensures c.below_of-n.ensures)
