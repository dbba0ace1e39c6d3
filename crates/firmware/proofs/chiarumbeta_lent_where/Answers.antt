-- Each lead has its numbers.
use Rattle.firmware.specs.Laws.{leadings}
use Rattle.firmware.proofs.chiarumbeta_lent_where.Goals as goal

pub returns-in-Some : goal.returns-in-Some
returns-in-Some c = search leadings

pub returns-in-None : goal.returns-in-None
returns-in-None c = search leadings
