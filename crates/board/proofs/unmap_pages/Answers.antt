-- Each return of `unmap_pages` stands where a test of `unmapping` led to it, in the same order.
use Rattle.judgements.specs.Judge.{unmapping}
use Rattle.rules.specs.Tests.{contraries}
use Rattle.board.proofs.unmap_pages.Goals as goal

pub returns-then-not-has : goal.returns-then-not-has
unfolding unmapping
returns-then-not-has c = search contraries depth 20

pub returns : goal.returns
unfolding unmapping
returns c = search contraries depth 20
