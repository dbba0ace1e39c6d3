-- `behind` meets its promise, since a part that reaches to the end is all that is left.
use borrow.Author.Rules.{part_to_end}
use Rattle.fip_read.proofs.behind.Goals as goal

pub returns : goal.returns
returns c = part_to_end c.args.pack.now 16
