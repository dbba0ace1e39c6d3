-- `put_run` meets its promise, since each pass puts one byte more behind those that stand there.
use Rattle.fip_identifiers.specs.Identifiers.{Ran}
use Rattle.fip_identifiers.proofs.put_run.Given as goal

abbrev pub invariant-loop-i : goal.invariant-loop-i
invariant-loop-i l = Ran l.initial.out l.out l.t l.at l.from l.n l.i
