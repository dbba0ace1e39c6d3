-- The core's power says which world is shown.
use Rattle.showing.specs.Showing.{showings}
use Rattle.showing.proofs.show.Goals as goal

pub returns-then-is_on : goal.returns-then-is_on
returns-then-is_on c = search showings

pub returns : goal.returns
returns c = search showings
