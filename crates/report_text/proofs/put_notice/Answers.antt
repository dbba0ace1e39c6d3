-- Four digits and a newline.
use borrow.Author.Rules.{rules}
use Rattle.report_text.specs.Report.{notice_put}
use Rattle.report_text.proofs.put_notice.Goals as goal

pub returns : goal.returns
returns c = search (notice_put, rules)
