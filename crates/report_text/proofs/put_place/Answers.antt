-- A count of 0 has no line.
use borrow.Author.Rules.{rules}
use Rattle.report_text.specs.Report.{place_none, place_line}
use Rattle.report_text.proofs.put_place.Goals as goal

pub returns-then-n-eq0 : goal.returns-then-n-eq0
returns-then-n-eq0 c = search (place_none, rules)

pub returns : goal.returns
returns c = search (place_line, rules)
