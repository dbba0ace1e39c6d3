-- `count_of` meets its promise, since the definition chooses the lesser.
use Rattle.std.proofs.Common.{◌∙◌, arith}
use Rattle.fip_text.specs.Line.{listed_min}
use Rattle.fip_text.proofs.count_of.Goals as goal

pub returns : goal.returns
returns c = (c.min.ensures ∙ listed_min _, omega arith)
