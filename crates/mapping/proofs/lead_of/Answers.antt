-- `lead_of` meets its promise, since it leads by the mapping that decides the address, which starts at or below it.
use Rattle.mapping.proofs.Lists.{list_laws}
use Rattle.std.proofs.Common.{rules}
use Rattle.mapping.proofs.lead_of.Goals as goal

pub returns-in_err-m : goal.returns-in_err-m
returns-in_err-m c = search (rules, list_laws)

pub overflow_sub-address : goal.overflow_sub-address
overflow_sub-address c = search (rules, list_laws)

pub returns : goal.returns
returns c = search (rules, list_laws)
