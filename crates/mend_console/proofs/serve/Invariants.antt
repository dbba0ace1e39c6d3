-- Each read goes on where the last one ended.
use Rattle.sheets.specs.Sheet.{sheet}
use Rattle.mend_reads.specs.Reading.{Serving}
use Rattle.mend_console.proofs.serve.Given as goal

abbrev pub invariant-loop : goal.invariant-loop
invariant-loop g l =
    Serving (l.initial.machine, sheet l.initial.kept l.initial.dropped l.initial.ends) (l.machine, sheet l.kept l.dropped l.ends) l.buf l.waits
