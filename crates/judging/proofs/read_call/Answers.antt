-- The parts, the arguments and the key are those of the eight numbers.
use Rattle.judging.specs.Laws.{request_is}
use Rattle.judging.proofs.read_call.Goals as goal

pub returns : goal.returns
returns c = search request_is
