-- `place_of` meets its promise, since its cases are the groups.
use Rattle.rules.specs.Tests.{choices}
use Rattle.fip_identifiers.specs.Identifiers.{place_of}
use borrow.Author.Rules.{rules}
use Rattle.fip_identifiers.proofs.place_of.Goals as goal

pub returns-in-0-to-3 : goal.returns-in-0-to-3
unfolding place_of
returns-in-0-to-3 c = (search (choices, rules), search rules)

pub returns-in-4-to-5 : goal.returns-in-4-to-5
unfolding place_of
returns-in-4-to-5 c = (search (choices, rules), search rules)

pub returns-in-6-to-7 : goal.returns-in-6-to-7
unfolding place_of
returns-in-6-to-7 c = (search (choices, rules), search rules)

pub returns-in-8-to-9 : goal.returns-in-8-to-9
unfolding place_of
returns-in-8-to-9 c = (search (choices, rules), search rules)

pub returns-in_default : goal.returns-in_default
unfolding place_of
returns-in_default c = (search (choices, rules), search rules)
