-- Each table is fresh.
use Rattle.firmware.specs.Laws.{all_fresh}
use Rattle.firmware.proofs.chiarumbeta_lent_fresh.Goals as goal

pub returns : goal.returns
returns c = search all_fresh
