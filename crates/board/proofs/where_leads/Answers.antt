-- In each arm of `where_leads` it is known where the address leads, and with it what `leading` makes of it.
use Rattle.judgements.specs.Judge.{leading}
use Rattle.board.specs.Laws.{leads}
use Rattle.board.proofs.where_leads.Goals as goal

pub returns-in-Some : goal.returns-in-Some
unfolding leading
returns-in-Some c = search leads

pub returns-in-None : goal.returns-in-None
unfolding leading
returns-in-None c = search leads
