-- The test asks of each place whether it is held.
use Rattle.std.proofs.Common.{rules, not}
use Rattle.ranges.specs.Question.{is_free}
use Rattle.places.specs.Table.{raw}
use Rattle.places.specs.Found.{to_last}
use Rattle.places.proofs.last_held.Goals as goal

pub returns : goal.returns
returns c = to_last (λ k. not (is_free (raw c.args.lists.now c.args.world k))) _ c.args.n (λ j b h k. search rules) _ c.count_to_last.ensures
