-- Where the run lies in the window, its span is told, and else none.
use Rattle.std.proofs.Common.{rules}
use Rattle.spans.specs.Laws.{lyings}
use Rattle.spans.proofs.span_of.Goals as goal

pub returns-in_err-first : goal.returns-in_err-first
returns-in_err-first c = search (rules, lyings)

pub returns : goal.returns
returns c = search (rules, lyings)
