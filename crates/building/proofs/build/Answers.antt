-- `build` meets its promise, since it writes where what it counted fits, and nothing else.
use native.Mathlib.Omega.{arith}
use Rattle.building.specs.Writing.{top_inside, top_fit, count_small}
use Rattle.building.proofs.build.Goals as goal

pub tables_of-count-requires : goal.tables_of-count-requires
tables_of-count-requires c = top_inside

pub overflow_mul-count : goal.overflow_mul-count
overflow_mul-count c = omega (arith, count_small _ _ c.tables_of-count.ensures)

pub write_tree-requires : goal.write_tree-requires
write_tree-requires c = top_fit _
