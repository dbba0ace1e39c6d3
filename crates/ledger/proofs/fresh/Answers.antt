-- All places are 0, as the definition has them.
use Rattle.ledger.specs.Places.{blank}
use Rattle.ledger.proofs.fresh.Goals as goal

pub returns : goal.returns
returns c = blank
