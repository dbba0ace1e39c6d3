-- The place is a page or outside, and `owning` answers each as `own_page` does.
use Rattle.judgements.specs.Judge.{owning}
use Rattle.board.specs.Laws.{owns}
use Rattle.board.proofs.own_page.Goals as goal

pub returns-in_default : goal.returns-in_default
unfolding owning
returns-in_default c = search owns

pub returns : goal.returns
unfolding owning
returns c = search owns
