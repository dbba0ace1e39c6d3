-- Each arm of `may_call` knows which number it has, so where the list has it.
use Rattle.judgements.specs.Laws.{keys}
use Rattle.judging.proofs.may_call.Goals as goal

pub returns-in-1 : goal.returns-in-1
returns-in-1 c = search keys depth 20

pub returns-in-2 : goal.returns-in-2
returns-in-2 c = search keys depth 20

pub returns-in-3 : goal.returns-in-3
returns-in-3 c = search keys depth 20

pub returns-in_default : goal.returns-in_default
returns-in_default c = search keys depth 20
