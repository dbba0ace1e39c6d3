use borrow.Author.Rules.{rules}
use Rattle.report_text.specs.Report.{tellings}
use Rattle.report_text.proofs.put_lines.Goals as goal

pub loop-i-init : goal.loop-i-init
loop-i-init c = (search (tellings, rules), search rules)

pub loop-i-preserved : goal.loop-i-preserved
loop-i-preserved c = (search (tellings, rules), search rules)

pub returns : goal.returns
returns c = search (tellings, rules)
