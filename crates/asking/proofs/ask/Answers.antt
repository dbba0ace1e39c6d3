-- `ask` meets its promise: the row is that of the key, and the arguments are those that the call reads.
use borrow.Author.Rules.{rules}
use Rattle.asking.specs.Forms.{slotting}
use Rattle.asking.proofs.ask.Goals as goal

pub returns-then-handed : goal.returns-then-handed
returns-then-handed c = search (slotting, rules)

pub returns : goal.returns
returns c = search (slotting, rules)
