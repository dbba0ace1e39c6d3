-- `pages_alike` meets its promise, since the mappings decide alike up to the next edge of any.
use Rattle.entries.specs.Tests.{alike_one, alike_some, alike_many}
use Rattle.std.proofs.Common.{rules}
use Rattle.entries.proofs.pages_alike.Goals as goal

pub returns-then-wanted-start : goal.returns-then-wanted-start
returns-then-wanted-start c = alike_one _ _ _ (search rules)

pub overflow_sub-result : goal.overflow_sub-result
overflow_sub-result c = alike_some _ _ _ c.requires.0 _ _ (search rules) c.steady-n.ensures

pub returns : goal.returns
returns c = alike_many _ _ _ c.requires.0 _ _ (search rules) c.steady-n.ensures (search rules)
