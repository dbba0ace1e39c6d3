-- The machine is made as it is before the first frame, and the loop starts from there.
use Rattle.mend_reads.specs.Reading.{ran_mends}
use Rattle.mend_console.proofs.mend.Goals as goal

pub returns : goal.returns
returns g c y = ran_mends _ _ _ _ _ c.serve.ensures y c.fresh-machine.ensures
