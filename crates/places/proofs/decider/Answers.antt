use Rattle.places.specs.Decider.{seen, seen_places}
use borrow.Author.Rules.{rules}
use Rattle.places.proofs.decider.Goals as goal

pub raw_at-requires : goal.raw_at-requires
raw_at-requires c = search (rules, seen_places)

pub loop-i-preserved : goal.loop-i-preserved
loop-i-preserved c = search (rules, seen)
