-- `status` meets its promise, since each arm of the match knows the answer that it names.
use Rattle.fip_entries.specs.Faults.{status_of}
use borrow.Author.Rules.{rules}
use Rattle.fip_read.proofs.status.Goals as goal

pub returns-in-Ok : goal.returns-in-Ok
unfolding status_of
returns-in-Ok c = search rules

pub returns-in-Err : goal.returns-in-Err
unfolding status_of
returns-in-Err c = search rules
