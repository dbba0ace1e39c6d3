-- A refused frame changes nothing; else the core arrives.
use Rattle.arriving.specs.Arriving.{arrivals}
use Rattle.arriving.proofs.make_arrival.Goals as goal

pub returns-in_default : goal.returns-in_default
returns-in_default c = search arrivals

pub returns : goal.returns
returns c = search arrivals
