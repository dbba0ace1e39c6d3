-- The test asks each place whether it is free; where all within the reach are held, the next one is.
use Rattle.std.proofs.Common.{rules, ◌∙◌, refl}
use Rattle.places.specs.Found.{found_free}
use Rattle.ranges.specs.Question.{asks_free}
use Rattle.ranges.specs.declared.Question.TheVariants.{Free}
use Rattle.places.proofs.lowest_free.Goals as goal

pub returns : goal.returns
unfolding asks_free
returns c = c.unwrap_or.ensures ∙
    (rw (← c.reach_of.ensures) at (found_free c.args.lists.now c.args.world Free _ (λ j b k. search rules) _ c.lowest.ensures refl))
