-- `hex_read::larger` meets its promise: the larger is a digit's mark only where both are.
use Rattle.std.proofs.Common.{rules}
use Rattle.hex_read.specs.Marks.{larger_laws}
use Rattle.hex_read.proofs.larger.Goals as goal

pub returns-then-a-b : goal.returns-then-a-b
returns-then-a-b c = search (larger_laws, rules)

pub returns : goal.returns
returns c = search (larger_laws, rules)
