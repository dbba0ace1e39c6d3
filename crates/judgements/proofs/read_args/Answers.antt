-- The parts of the key, by the promise of `split`, say how the arguments are read.
use Rattle.judgements.specs.Read.{reads}
use Rattle.judgements.proofs.read_args.Goals as goal

pub returns : goal.returns
returns c = search reads
