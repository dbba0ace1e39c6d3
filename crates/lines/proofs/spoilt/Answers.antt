-- `lines::spoilt` meets its promise: where the line ends at the newline that is known, its signs are no bytes; else it is a shorter one.
use borrow.Author.Rules.{rules}
use Rattle.lines.specs.Lines.{next_spoilt}
use Rattle.lines.proofs.spoilt.Goals as goal

pub returns-then-end-e : goal.returns-then-end-e
returns-then-end-e c = search (next_spoilt, rules)
