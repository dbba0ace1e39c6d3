-- Each read goes on where the last one ended.
use Rattle.reporting.specs.Reading.{Serving}
use Rattle.report_console.proofs.serve.Given as goal

abbrev pub invariant-loop : goal.invariant-loop
invariant-loop g l =
    Serving (l.initial.machine, l.initial.tally) (l.machine, l.tally) l.buf l.kept
