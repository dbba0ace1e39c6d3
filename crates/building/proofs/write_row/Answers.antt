use mathlib.Core.Path.{ap, ◌∙◌}
use native.Mathlib.Omega.{arith}
use lib.ListN.{length}
use Rattle.tools.specs.Laid.{length_laid}
use Rattle.building.specs.Gaps.{gap_inside, next_passed, row_passed}
use Rattle.building.specs.Writing.{row_starts, row_goes, row_ends, next_starts, next_fits, next_goes, part_inside, sum_fits}
use borrow.Author.Rules.{rules}
use Rattle.building.proofs.write_row.Goals as goal

pub overflow_add-next : goal.overflow_add-next
overflow_add-next c = omega (arith, c.requires.most)

pub loop-i-init : goal.loop-i-init
loop-i-init c = (search rules, row_starts _ _ _ _ _, next_starts _ _ _ _)

pub part_of-requires : goal.part_of-requires
part_of-requires c = (c.requires.room, search rules)

pub overflow_mul-t : goal.overflow_mul-t
overflow_mul-t c = omega (arith, c.requires.most)

pub overflow_add-t : goal.overflow_add-t
overflow_add-t c = omega (arith, c.requires.most)

pub clear-requires : goal.clear-requires
clear-requires c = (omega (arith, c.requires.most), omega (arith, c.gap_of-gap.ensures.few))

pub overflow_add-i : goal.overflow_add-i
overflow_add-i c = omega (arith, c.gap_of-gap.ensures.few)

pub shape_of-numbers-then-i-ge-ENTRIES : goal.shape_of-numbers-then-i-ge-ENTRIES
shape_of-numbers-then-i-ge-ENTRIES c = ap length (row_passed _ _ _ _ _ _ c.part_of.ensures c.gap_of-gap.ensures _ _ _ _ c.loop-i.invariant.1 c.clear.ensures) ∙ length_laid _ _ _

pub returns-then-i-ge-ENTRIES : goal.returns-then-i-ge-ENTRIES
returns-then-i-ge-ENTRIES c = row_ends _ _ _ _ _ _ _ (row_passed _ _ _ _ _ _ c.part_of.ensures c.gap_of-gap.ensures _ _ _ _ c.loop-i.invariant.1 c.clear.ensures) (search rules) (gap_inside _ _ _ _ _ _ c.part_of.ensures c.gap_of-gap.ensures (search rules))

pub part_of-b-requires : goal.part_of-b-requires
part_of-b-requires c = (c.requires.room, search rules)

pub overflow_mul-next : goal.overflow_mul-next
overflow_mul-next c = omega (arith, next_fits _ _ _ _ _ _ (next_passed _ _ _ _ _ _ c.part_of.ensures c.gap_of-gap.ensures _ _ c.loop-i.invariant.2) c.requires (search rules))

pub overflow_mul-t-in-loop-i : goal.overflow_mul-t-in-loop-i
overflow_mul-t-in-loop-i c = omega (arith, c.requires.most)

pub overflow_add-t-in-loop-i : goal.overflow_add-t-in-loop-i
overflow_add-t-in-loop-i c = omega (arith, c.requires.most)

pub below_of-next-requires : goal.below_of-next-requires
below_of-next-requires c = part_inside _ _ _ c.requires.room (search rules) _ c.part_of-b.ensures

pub overflow_add-next-in-loop-i : goal.overflow_add-next-in-loop-i
overflow_add-next-in-loop-i c = omega (arith, sum_fits _ _ _ _ _ _ (next_passed _ _ _ _ _ _ c.part_of.ensures c.gap_of-gap.ensures _ _ c.loop-i.invariant.2) c.requires (search rules) _ c.part_of-b.ensures _ c.below_of-next.ensures)

pub loop-i-preserved : goal.loop-i-preserved
loop-i-preserved c = (search rules, row_goes _ _ _ _ _ _ _ _ _ _ _ (row_passed _ _ _ _ _ _ c.part_of.ensures c.gap_of-gap.ensures _ _ _ _ c.loop-i.invariant.1 c.clear.ensures) (next_passed _ _ _ _ _ _ c.part_of.ensures c.gap_of-gap.ensures _ _ c.loop-i.invariant.2) c.part_of-b.ensures c.entry_of-e.ensures c.put.ensures, next_goes _ _ _ _ _ _ (next_passed _ _ _ _ _ _ c.part_of.ensures c.gap_of-gap.ensures _ _ c.loop-i.invariant.2) c.requires (search rules) _ c.part_of-b.ensures _ c.below_of-next.ensures)

pub shape_of-numbers : goal.shape_of-numbers
shape_of-numbers c = ap length c.loop-i.invariant.1 ∙ length_laid _ _ _

pub returns : goal.returns
returns c = row_ends _ _ _ _ _ _ _ c.loop-i.invariant.1 (search rules) (search rules)
