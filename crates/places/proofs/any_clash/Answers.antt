-- The test asks each place whether it clashes.
use Rattle.std.proofs.Common.{rules, ◌∙◌}
use Rattle.places.specs.Found.{clash_found}
use Rattle.places.proofs.any_clash.Goals as goal

pub returns : goal.returns
returns c = c.is_some.ensures ∙ clash_found c.args.lists.now c.args.world c.args.m _ (λ j b k. search rules) _ c.lowest.ensures
