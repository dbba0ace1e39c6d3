-- `hex_read::mark` meets its promise: its three branches are the three ranges of `mark_of`.
use Rattle.std.proofs.Common.{rules}
use Rattle.hex_read.specs.Marks.{mark_low, mark_middle, mark_high}
use Rattle.hex_read.proofs.mark.Goals as goal

pub returns-then-b-lt58 : goal.returns-then-b-lt58
returns-then-b-lt58 c = search (mark_low, rules)

pub returns-then-b-lt97 : goal.returns-then-b-lt97
returns-then-b-lt97 c = search (mark_middle, rules)

pub returns : goal.returns
returns c = search (mark_high, rules)
