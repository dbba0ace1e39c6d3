-- What is written is what was laid.
use Rattle.std.proofs.Common.{rules}
use Rattle.report_text.specs.Report.{told_space}
use Rattle.report_console.proofs.tell.Goals as goal

pub returns : goal.returns
returns g c = search (told_space, rules)
