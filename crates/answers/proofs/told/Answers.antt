-- In each arm of `told` the answer is known.
use borrow.Author.Rules.{rules}
use Rattle.answers.specs.Laws.{tells_no}
use Rattle.answers.proofs.told.Goals as goal

pub returns-in-No : goal.returns-in-No
returns-in-No c = search (tells_no, rules)
