use Rattle.fip_text.specs.Line.{lining}
use borrow.Author.Rules.{rules}
use Rattle.fip_text.proofs.put_lines.Goals as goal

pub loop-k-init : goal.loop-k-init
loop-k-init c = search (lining, rules)

pub loop-k-preserved : goal.loop-k-preserved
loop-k-preserved c = search (lining, rules)

pub returns : goal.returns
returns c = (search (lining, rules), search rules)
