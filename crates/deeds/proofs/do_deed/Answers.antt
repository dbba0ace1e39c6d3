-- In each arm of `do_deed` the deed is known, and with it what becomes of the tables.
use Rattle.deeds.specs.Laws.{deeds}
use Rattle.deeds.proofs.do_deed.Goals as goal

pub returns-in-Nothing : goal.returns-in-Nothing
returns-in-Nothing c = search deeds

pub returns-in-Move : goal.returns-in-Move
returns-in-Move c = search deeds

pub returns-in-Map : goal.returns-in-Map
returns-in-Map c = search deeds

pub returns-in-Unmap : goal.returns-in-Unmap
returns-in-Unmap c = search deeds

pub returns-in-Start : goal.returns-in-Start
returns-in-Start c = search deeds

pub returns-in-GoOff : goal.returns-in-GoOff
returns-in-GoOff c = search deeds

pub returns-in-HandOver : goal.returns-in-HandOver
returns-in-HandOver c = search deeds

pub returns-in-Finish : goal.returns-in-Finish
returns-in-Finish c = search deeds
