-- `is_owned` meets its promise, since it asks the owners of the pages where they are in the window, and answers no where they are not.
use Rattle.mapping.specs.Mapping.{owner_tests}
use Rattle.std.proofs.Common.{rules}
use Rattle.mapping.proofs.is_owned.Goals as goal

pub returns-in_default : goal.returns-in_default
returns-in_default c = search (rules, owner_tests)

pub returns : goal.returns
returns c = search (rules, owner_tests)
