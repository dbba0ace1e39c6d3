-- Two bytes are put one behind the other.
use borrow.Author.Rules.{rules}
use Rattle.report_text.specs.Report.{head_put}
use Rattle.report_text.proofs.put_head.Goals as goal

pub returns : goal.returns
returns c = search (head_put, rules)
