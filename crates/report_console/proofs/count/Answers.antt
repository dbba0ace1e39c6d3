-- The machine is made as it is before the first frame, and the loop starts from there.
use Rattle.reporting.specs.Reading.{ran_noted}
use Rattle.report_console.proofs.count.Goals as goal

pub returns : goal.returns
returns g c y = ran_noted _ _ _ _ _ c.serve.ensures y c.fresh-machine.ensures
