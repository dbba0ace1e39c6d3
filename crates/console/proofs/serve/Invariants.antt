-- Each read goes on where the last one ended.
use Rattle.inputs.specs.Monitor.{Serving}
use Rattle.console.proofs.serve.Given as goal

abbrev pub invariant-loop : goal.invariant-loop
invariant-loop g l =
    Serving l.initial.machine l.machine l.buf l.kept
