use native.Mathlib.Omega.{arith}
use Rattle.building.specs.Gaps.{gap_inside, next_passed, limbs_passed}
use Rattle.building.specs.Writing.{limbs_start, limbs_go, limbs_end, next_starts, next_after, next_ends, limb_fits, limb_fit, limb_none, limb_not, limb_yes}
use borrow.Author.Rules.{rules}
use Rattle.building.proofs.+write_limb_write_tree.Goals as goal

pub write_limb-returns-then-level-eq0 : goal.write_limb-returns-then-level-eq0
write_limb-returns-then-level-eq0 t c = limb_none _ _ _ _ _ (search rules)

pub write_limb-write_tree-requires : goal.write_limb-write_tree-requires
write_limb-write_tree-requires t c = (omega arith, limb_fit _ _ _ c.if-level-eq0.false _ c.is_deeper.ensures _ c.requires c.if-is_deeper.true)

pub write_limb-returns-then-is_deeper : goal.write_limb-returns-then-is_deeper
write_limb-returns-then-is_deeper t c = limb_yes _ _ _ c.if-level-eq0.false _ c.is_deeper.ensures _ _ _ _ c.if-is_deeper.true c.write_tree.ensures

pub write_limb-returns : goal.write_limb-returns
write_limb-returns t c = limb_not _ _ _ c.if-level-eq0.false _ c.is_deeper.ensures _ _ c.if-is_deeper.false

pub write_tree-write_row-requires : goal.write_tree-write_row-requires
write_tree-write_row-requires t c = c.requires

pub write_tree-overflow_add-next : goal.write_tree-overflow_add-next
write_tree-overflow_add-next t c = omega (arith, c.requires.most)

pub write_tree-loop-i-init : goal.write_tree-loop-i-init
write_tree-loop-i-init t c = (search rules, limbs_start _ _ _ _ _, next_starts _ _ _ _)

pub write_tree-part_of-requires : goal.write_tree-part_of-requires
write_tree-part_of-requires t c = (c.requires.room, search rules)

pub write_tree-overflow_add-i : goal.write_tree-overflow_add-i
write_tree-overflow_add-i t c = omega (arith, c.gap_of-i.ensures.few)

pub write_tree-returns-then-i-ge-ENTRIES : goal.write_tree-returns-then-i-ge-ENTRIES
write_tree-returns-then-i-ge-ENTRIES t c = (next_ends _ _ _ _ _ _ (next_passed _ _ _ _ _ _ c.part_of.ensures c.gap_of-i.ensures _ _ c.loop-i.invariant.2) (search rules) (gap_inside _ _ _ _ _ _ c.part_of.ensures c.gap_of-i.ensures (search rules)), limbs_end _ _ _ _ _ _ _ _ c.write_row.ensures (limbs_passed _ _ _ _ _ _ c.part_of.ensures c.gap_of-i.ensures _ _ _ c.loop-i.invariant.1) (search rules) (gap_inside _ _ _ _ _ _ c.part_of.ensures c.gap_of-i.ensures (search rules)))

pub write_tree-part_of-requires-in-loop-i : goal.write_tree-part_of-requires-in-loop-i
write_tree-part_of-requires-in-loop-i t c = (c.requires.room, search rules)

pub write_tree-write_limb-next-requires : goal.write_tree-write_limb-next-requires
write_tree-write_limb-next-requires t c = (omega arith, limb_fits _ _ _ _ _ _ (next_passed _ _ _ _ _ _ c.part_of.ensures c.gap_of-i.ensures _ _ c.loop-i.invariant.2) c.requires (search rules) _ c.part_of-in-loop-i.ensures)

pub write_tree-loop-i-preserved : goal.write_tree-loop-i-preserved
write_tree-loop-i-preserved t c = (search rules, limbs_go _ _ _ _ _ _ _ _ _ _ (limbs_passed _ _ _ _ _ _ c.part_of.ensures c.gap_of-i.ensures _ _ _ c.loop-i.invariant.1) (next_passed _ _ _ _ _ _ c.part_of.ensures c.gap_of-i.ensures _ _ c.loop-i.invariant.2) c.part_of-in-loop-i.ensures c.write_limb-next.ensures.1, next_after _ _ _ _ _ _ (next_passed _ _ _ _ _ _ c.part_of.ensures c.gap_of-i.ensures _ _ c.loop-i.invariant.2) c.requires (search rules) _ c.part_of-in-loop-i.ensures _ c.write_limb-next.ensures.0)

pub write_tree-returns : goal.write_tree-returns
write_tree-returns t c = (next_ends _ _ _ _ _ _ c.loop-i.invariant.2 (search rules) (search rules), limbs_end _ _ _ _ _ _ _ _ c.write_row.ensures c.loop-i.invariant.1 (search rules) (search rules))
