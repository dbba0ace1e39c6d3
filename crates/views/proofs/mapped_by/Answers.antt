-- In each arm the frame is known.
use borrow.Author.Rules.{rules}
use Rattle.views.specs.Laws.{by_frames}
use Rattle.views.proofs.mapped_by.Goals as goal

pub returns-in-Site : goal.returns-in-Site
returns-in-Site c = search (by_frames, rules)

pub returns-in-Entry : goal.returns-in-Entry
returns-in-Entry c = search (by_frames, rules)

pub returns-in-Name : goal.returns-in-Name
returns-in-Name c = search (by_frames, rules)

pub returns-in-Call : goal.returns-in-Call
returns-in-Call c = search (by_frames, rules)

pub returns-in-Arrival : goal.returns-in-Arrival
returns-in-Arrival c = search (by_frames, rules)

pub returns-in-Refused : goal.returns-in-Refused
returns-in-Refused c = search (by_frames, rules)
