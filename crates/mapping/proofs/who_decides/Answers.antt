-- `who_decides` meets its promise, since the smallest of the places is the one that decides among the list's, or there is none.
use Rattle.mapping.proofs.Lists.{list_laws}
use Rattle.std.proofs.Common.{rules}
use Rattle.mapping.proofs.who_decides.Goals as goal

pub returns-then-m-eq0 : goal.returns-then-m-eq0
returns-then-m-eq0 c = search (rules, list_laws)

pub returns : goal.returns
returns c = search (rules, list_laws)
