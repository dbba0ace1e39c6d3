-- Each return of `close` stands at a case of the definition.
use borrow.Author.Rules.{rules}
use Rattle.lines.specs.Close.{closings}
use Rattle.lines.proofs.close.Goals as goal

pub returns-then-buf-n : goal.returns-then-buf-n
returns-then-buf-n c = search (rules, closings)

pub returns-then-n-eq0 : goal.returns-then-n-eq0
returns-then-n-eq0 c = search (rules, closings)

pub returns-then-n-kept : goal.returns-then-n-kept
returns-then-n-kept c = search (rules, closings)

pub returns : goal.returns
returns c = search (rules, closings)
