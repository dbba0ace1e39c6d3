-- At a wrong time nothing is tried; else the answer of the pages is told.
use Rattle.setup.specs.Laws.{attempts}
use Rattle.setup.proofs.name_pages.Goals as goal

pub returns-then-is_untimely : goal.returns-then-is_untimely
returns-then-is_untimely c = search attempts

pub returns : goal.returns
returns c = search attempts
