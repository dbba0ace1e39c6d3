-- The notice comes first, where it comes at all, and there is room for all.
use borrow.Author.Rules.{rules}
use Rattle.report_text.specs.Report.{lines_room, report_over, report_plain}
use Rattle.report_text.proofs.put_report.Goals as goal

pub put_lines-requires : goal.put_lines-requires
put_lines-requires c = lines_room _ _ _ (search rules) c.put_notice-start.ensures

pub returns-then-is_over : goal.returns-then-is_over
returns-then-is_over c = report_over _ _ _ _ _ _ (cc) (search rules) c.put_notice-start.ensures c.put_lines.ensures

pub returns : goal.returns
returns c = report_plain _ _ _ _ (cc) c.put_lines-2.ensures
