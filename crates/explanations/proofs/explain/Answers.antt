-- The machine and the tables are made as they are before the first line, the input is read to its end, and then the end is told.
use Rattle.std.proofs.Math.Path.{refl}
use Rattle.rules.specs.Choice.{yes_or_no}
use Rattle.explanations.specs.Ended.{ended}
use Rattle.explanations.proofs.explain.Goals as goal

pub returns-then-explain : goal.returns-then-explain
returns-then-explain g c y =
    ended _ _ _ _ _ _ _ _ _ _ _ c.fresh-machine.ensures c.fresh-table.ensures c.fresh_lines-count.ensures c.explain.ensures c.if-explain.true c.tell.ensures y

pub returns : goal.returns
returns g c y = absurd (yes_or_no _ y refl)
