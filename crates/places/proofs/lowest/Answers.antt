use Rattle.places.specs.Table.{place_laws}
use borrow.Author.Rules.{rules}
use Rattle.places.proofs.lowest.Goals as goal

pub raw_at-requires : goal.raw_at-requires
raw_at-requires g c = search (rules, place_laws)
