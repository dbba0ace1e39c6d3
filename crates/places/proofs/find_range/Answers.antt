-- The test asks the question of each place, and a free place answers no.
use Rattle.std.proofs.Common.{rules, ◌∙◌, refl}
use Rattle.places.specs.Found.{found_held}
use Rattle.ranges.specs.Question.{asks_free}
use Rattle.ranges.specs.declared.Question.TheVariants.{OnRange}
use Rattle.places.proofs.find_range.Goals as goal

pub returns : goal.returns
unfolding asks_free
returns c = c.unwrap_or.ensures ∙ found_held c.args.lists.now c.args.world (OnRange c.args.start c.args.size) _ (λ j b k. search rules) _ c.lowest.ensures refl
