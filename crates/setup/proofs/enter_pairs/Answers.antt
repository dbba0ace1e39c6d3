-- At a wrong time nothing is tried; else the ledger's own answer is told.
use Rattle.setup.specs.Laws.{attempts}
use Rattle.setup.proofs.enter_pairs.Goals as goal

pub returns-then-is_untimely : goal.returns-then-is_untimely
returns-then-is_untimely c = search attempts

pub returns : goal.returns
returns c = search attempts
