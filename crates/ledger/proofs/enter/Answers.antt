-- Each return is decided by a test of the definition, in its order, and past them all the entry is recorded.
use Rattle.rules.specs.Tests.{judgements}
use Rattle.ledger.specs.Ledger.{entered, accepts}
use Rattle.ledger.proofs.enter.Goals as goal

pub returns-then-last-first : goal.returns-then-last-first
unfolding entered
returns-then-last-first c = search judgements depth 20

pub returns-then-last-gt-LAST_OWNER : goal.returns-then-last-gt-LAST_OWNER
unfolding entered
returns-then-last-gt-LAST_OWNER c = search judgements depth 20

pub returns-then-kind-gt-LAST_KIND : goal.returns-then-kind-gt-LAST_KIND
unfolding entered
returns-then-kind-gt-LAST_KIND c = search judgements depth 20

pub returns-then-number-gt-LAST_HANDLER : goal.returns-then-number-gt-LAST_HANDLER
unfolding entered
returns-then-number-gt-LAST_HANDLER c = search judgements depth 20

pub returns-then-any_taken : goal.returns-then-any_taken
unfolding entered
returns-then-any_taken c = search judgements depth 20

pub returns : goal.returns
unfolding entered
returns c = search (judgements, accepts) depth 20
