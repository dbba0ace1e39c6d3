-- A transfer is known by its row; of the rest each arm is reached by the handler that `by_number` picks it for.
use Rattle.judgements.specs.Judge.{by_number}
use Rattle.judging.specs.Laws.{rows}
use Rattle.judging.proofs.by_handler.Goals as goal

pub returns-in-Some : goal.returns-in-Some
unfolding by_number
returns-in-Some c = search rows depth 20

pub returns-in-0 : goal.returns-in-0
unfolding by_number
returns-in-0 c = search rows depth 20

pub returns-in-1 : goal.returns-in-1
unfolding by_number
returns-in-1 c = search rows depth 20

pub returns-in-2 : goal.returns-in-2
unfolding by_number
returns-in-2 c = search rows depth 20

pub returns-in-3 : goal.returns-in-3
unfolding by_number
returns-in-3 c = search rows depth 20

pub returns-in_default : goal.returns-in_default
unfolding by_number
returns-in_default c = search rows depth 20
