-- What is mapped is what the call wants.
use Rattle.board.specs.Laws.{map_for}
use Rattle.board.proofs.map_pages.Goals as goal

pub returns : goal.returns
returns c = search map_for
