-- A refused frame changes nothing; else set-up ends, and the call's step is made.
use Rattle.std.proofs.Common.{rules}
use Rattle.calling.specs.Laws.{tries}
use Rattle.calling.proofs.try_call.Goals as goal

pub returns-in_err-judge_call : goal.returns-in_err-judge_call
returns-in_err-judge_call c = search (rules, tries)

pub returns : goal.returns
returns c = let h = c.in_ok-judge_call.was in search (rules, tries)
