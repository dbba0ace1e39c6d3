use Rattle.std.proofs.Common.{rules}
use Rattle.hex_read.specs.Many.{scanning}
use Rattle.hex_read.proofs.marks_of.Goals as goal

pub loop-i-init : goal.loop-i-init
loop-i-init c = search (scanning, rules)

pub loop-i-preserved : goal.loop-i-preserved
loop-i-preserved c = search (scanning, rules)

pub returns : goal.returns
returns c = search (scanning, rules)
