-- A call is noted, and any other frame does what it does.
use borrow.Author.Rules.{rules}
use Rattle.counting.specs.Laws.{frames_taken}
use Rattle.counting.proofs.take_frame.Goals as goal

pub returns-in_default : goal.returns-in_default
returns-in_default c = search (frames_taken, rules)

pub returns : goal.returns
returns c = search (frames_taken, rules)
