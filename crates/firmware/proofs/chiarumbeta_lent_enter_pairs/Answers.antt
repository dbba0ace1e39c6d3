-- The entry is the one below, with its status as a byte.
use Rattle.firmware.specs.Laws.{in_byte_lem}
use Rattle.firmware.proofs.chiarumbeta_lent_enter_pairs.Goals as goal

pub returns : goal.returns
returns c = search in_byte_lem
