-- Each part stands behind those before it, and there is room for all.
use borrow.Author.Rules.{rules}
use Rattle.picture.specs.Picture.{behind, row_room, row_so}
use Rattle.picture.proofs.put_letters.Goals as goal

pub overflow_sub-a : goal.overflow_sub-a
overflow_sub-a c = search (behind, rules)

pub draw-c-requires : goal.draw-c-requires
draw-c-requires c = (search (row_room, rules), search rules)

pub returns : goal.returns
returns c = search (row_so, rules)
