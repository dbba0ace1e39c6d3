-- A call that is refused as a frame is not noted.
use borrow.Author.Rules.{rules}
use Rattle.counting.specs.Laws.{tries_noted}
use Rattle.counting.proofs.note_try.Goals as goal

pub returns-in_default : goal.returns-in_default
returns-in_default c = search (tries_noted, rules)

pub returns : goal.returns
returns c = search (tries_noted, rules)
