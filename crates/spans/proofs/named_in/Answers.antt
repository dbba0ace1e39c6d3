-- In each arm the frame is known.
use borrow.Author.Rules.{rules}
use Rattle.spans.specs.Laws.{frames_named}
use Rattle.spans.proofs.named_in.Goals as goal

pub returns-in-Name : goal.returns-in-Name
returns-in-Name c = search (frames_named, rules)
