-- An answer that is silent writes nothing.
use borrow.Author.Rules.{rules}
use Rattle.answers.specs.Laws.{writes_nothing}
use Rattle.answers.proofs.write_answer.Goals as goal

pub returns-in-Silent : goal.returns-in-Silent
returns-in-Silent c = search (writes_nothing, rules)
