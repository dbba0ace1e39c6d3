-- Whether the core is ON is what the verdict is asked with.
use Rattle.calling.specs.Laws.{asks_on}
use Rattle.calling.proofs.judge_call.Goals as goal

pub returns-then-is_on : goal.returns-then-is_on
returns-then-is_on c = search asks_on

pub returns : goal.returns
returns c = search asks_on
