-- Each return of `judge_core` stands at a row of the table of statuses.
use borrow.Author.Rules.{rules}
use Rattle.setup.specs.Laws.{core_rows}
use Rattle.setup.proofs.judge_core.Goals as goal

pub returns-then-cores_of-core : goal.returns-then-cores_of-core
returns-then-cores_of-core c = search (rules, core_rows)

pub returns-then-fits : goal.returns-then-fits
returns-then-fits c = search (rules, core_rows)

pub returns-then-is_ready : goal.returns-then-is_ready
returns-then-is_ready c = search (rules, core_rows)

pub returns : goal.returns
returns c = search (rules, core_rows)
