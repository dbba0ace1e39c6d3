-- The machine is made as it is before the first frame, and the loop starts from there.
use Rattle.inputs.specs.Monitor.{ran_left}
use Rattle.console.proofs.run.Goals as goal

pub returns-then-serve : goal.returns-then-serve
returns-then-serve g c = ran_left _ _ _ c.serve.ensures c.if-serve.true c.fresh-machine.ensures
