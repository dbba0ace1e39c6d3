-- Each return of `judge` stands where a test of `judged_by` led to it, in the same order.
use Rattle.judgements.specs.Judge.{judged_by}
use Rattle.judging.specs.Laws.{lookups}
use Rattle.judging.proofs.judge.Goals as goal

pub returns-then-not-may_call : goal.returns-then-not-may_call
unfolding judged_by
returns-then-not-may_call c = search lookups depth 20

pub returns-then-not-admitted : goal.returns-then-not-admitted
unfolding judged_by
returns-then-not-admitted c = search lookups depth 20

pub returns-in_default : goal.returns-in_default
unfolding judged_by
returns-in_default c = search lookups depth 20

pub returns : goal.returns
unfolding judged_by
returns c = search lookups depth 20
