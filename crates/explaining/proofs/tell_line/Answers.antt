-- `tell_line` meets its promise: the sentence is made of these values, and its line is put.
use Rattle.explaining.specs.Laws.{told_so}
use borrow.Author.Rules.{rules}
use Rattle.explaining.proofs.tell_line.Goals as goal

pub returns : goal.returns
returns c = search (told_so, rules)
