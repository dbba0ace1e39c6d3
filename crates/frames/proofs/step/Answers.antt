-- In each arm the frame is known, and its own function has done what that frame does.
use Rattle.frames.specs.Laws.{steps}
use Rattle.frames.proofs.step.Goals as goal

pub returns-in-Site : goal.returns-in-Site
returns-in-Site c = search steps

pub returns-in-Entry : goal.returns-in-Entry
returns-in-Entry c = search steps

pub returns-in-Name : goal.returns-in-Name
returns-in-Name c = search steps

pub returns-in-Call : goal.returns-in-Call
returns-in-Call c = search steps

pub returns-in-Arrival : goal.returns-in-Arrival
returns-in-Arrival c = search steps

pub returns-in-Refused : goal.returns-in-Refused
returns-in-Refused c = search steps
