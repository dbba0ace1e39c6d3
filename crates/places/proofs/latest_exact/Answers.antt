-- The test asks each place for the start and size; nothing is held past the reach, and nothing of size 0.
use Rattle.std.proofs.Common.{rules}
use Rattle.places.specs.Table.{reach_bounds}
use Rattle.places.specs.Found.{latest_empty, latest_found}
use Rattle.places.proofs.latest_exact.Goals as goal

pub returns-then-size-eq0 : goal.returns-then-size-eq0
returns-then-size-eq0 c = latest_empty _ _ _ _ (search rules)

pub count_to_last-requires : goal.count_to_last-requires
count_to_last-requires c = search (rules, reach_bounds)

pub returns : goal.returns
returns c = latest_found c.args.lists.now c.args.world c.args.virt c.args.size (search rules) _ (λ j b k. search rules) _ (rw c.reach_of.ensures at c.count_to_last.ensures)
