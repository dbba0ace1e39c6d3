-- In each arm the frame is known.
use borrow.Author.Rules.{rules}
use Rattle.telling.specs.Telling.{tells, sentence_of}
use Rattle.telling.proofs.tell.Goals as goal
use Rattle.telling.proofs.tell.Goals.{in-Site, in-Entry, in-Name, in-Call, in-Arrival, in-Refused}

pub returns : goal.returns
unfolding sentence_of
returns c =
    elim c.match-frame.branch [
      | in-Site w ↦ search (tells, rules)
      | in-Entry w ↦ search (tells, rules)
      | in-Name w ↦ search (tells, rules)
      | in-Call w ↦ search (tells, rules)
      | in-Arrival w ↦ search (tells, rules)
      | in-Refused w ↦ search (tells, rules)
    ]
