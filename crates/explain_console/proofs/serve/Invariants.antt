-- Each read goes on where the last one ended.
use Rattle.explain_reads.specs.Reading.{Serving}
use Rattle.explain_console.proofs.serve.Given as goal

abbrev pub invariant-loop : goal.invariant-loop
invariant-loop g l =
    Serving (l.initial.machine, (l.initial.origins, l.initial.count)) (l.machine, (l.origins, l.count)) l.buf l.kept
