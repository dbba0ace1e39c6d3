-- Two numbers are put one behind the other.
use borrow.Author.Rules.{rules}
use Rattle.report_text.specs.Report.{pair_put}
use Rattle.report_text.proofs.put_pair.Goals as goal

pub returns : goal.returns
returns c = search (pair_put, rules)
