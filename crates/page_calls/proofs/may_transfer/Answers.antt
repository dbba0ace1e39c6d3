-- Each arm knows the world.
use Rattle.page_calls.specs.Laws.{callers}
use Rattle.page_calls.proofs.may_transfer.Goals as goal

pub returns-in-1 : goal.returns-in-1
returns-in-1 c = search callers

pub returns-in-3 : goal.returns-in-3
returns-in-3 c = search callers

pub returns-in_default : goal.returns-in_default
returns-in_default c = search callers
