use Rattle.places.specs.Table.{place_laws}
use borrow.Author.Rules.{rules}
use Rattle.places.proofs.place_of.Goals as goal

pub raw_at-m-requires : goal.raw_at-m-requires
raw_at-m-requires c = search (rules, place_laws)
