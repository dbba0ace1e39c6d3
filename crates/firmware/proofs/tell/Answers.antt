-- A core that is ON shows the world that runs there, and any other shows Normal.
use Rattle.firmware.specs.Laws.{tellings}
use Rattle.firmware.proofs.tell.Goals as goal

pub returns-then-is_on : goal.returns-then-is_on
returns-then-is_on c = search tellings

pub returns : goal.returns
returns c = search tellings
