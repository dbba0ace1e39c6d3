-- In each arm the frame is known, and its own function has done what that frame does.
use Rattle.outcomes.specs.Laws.{takes}
use Rattle.outcomes.proofs.take_frame.Goals as goal

pub returns-in-Site : goal.returns-in-Site
returns-in-Site c = search takes

pub returns-in-Entry : goal.returns-in-Entry
returns-in-Entry c = search takes

pub returns-in-Name : goal.returns-in-Name
returns-in-Name c = search takes

pub returns-in-Call : goal.returns-in-Call
returns-in-Call c = search takes

pub returns-in-Arrival : goal.returns-in-Arrival
returns-in-Arrival c = search takes

pub returns-in-Refused : goal.returns-in-Refused
returns-in-Refused c = search takes
