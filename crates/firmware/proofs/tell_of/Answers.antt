-- The seven numbers are written one by one, and all of them.
use Rattle.firmware.specs.Laws.{tells}
use Rattle.firmware.proofs.tell_of.Goals as goal

pub returns : goal.returns
returns c = search tells
