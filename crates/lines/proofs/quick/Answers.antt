-- `lines::quick` meets its promise: what begins with 20 and is all digits is a call, and all else leaves the numbers.
use borrow.Author.Rules.{rules}
use Rattle.lines.specs.Quick.{quick_call, quick_none}
use Rattle.lines.proofs.quick.Goals as goal

pub returns-then-numbers : goal.returns-then-numbers
returns-then-numbers c = search (quick_call, rules)

pub returns : goal.returns
returns c = search (quick_none, rules)
