-- Each read goes on where the last one ended.
use Rattle.frames.specs.Frames.{machine}
use Rattle.inputs.specs.Monitor.{Serving}
use Rattle.console.proofs.quiet.read.Given as goal

abbrev pub invariant-loop : goal.invariant-loop
invariant-loop g l =
    Serving (machine l.initial.setup l.initial.named l.initial.book l.initial.owners l.initial.saved l.initial.powers l.initial.turns l.initial.lists) (machine l.setup l.named l.book l.owners l.saved l.powers l.turns l.lists) l.buf l.kept
