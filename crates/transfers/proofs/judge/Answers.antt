-- Each return of `judge` stands where a test of `transfer_verdict` led to it, in the same order.
use Rattle.transfers.specs.Transfer.{transfer_verdict, moves}
use Rattle.transfers.proofs.judge.Goals as goal

pub returns-then-count-eq0 : goal.returns-then-count-eq0
unfolding transfer_verdict
returns-then-count-eq0 c = search moves depth 20

pub returns-in_default : goal.returns-in_default
unfolding transfer_verdict
returns-in_default c = search moves depth 20

pub returns-then-not-all_owned : goal.returns-then-not-all_owned
unfolding transfer_verdict
returns-then-not-all_owned c = search moves depth 20

pub returns-then-meets_run : goal.returns-then-meets_run
unfolding transfer_verdict
returns-then-meets_run c = search moves depth 20

pub returns : goal.returns
unfolding transfer_verdict
returns c = search moves depth 20
