-- What is written is what was finished.
use Rattle.std.proofs.Common.{ℕ}
use Rattle.std.proofs.Math.Path.{ap}
use Rattle.std.specs.Prelude.{List}
use Rattle.mend_console.proofs.tell.Goals as goal

pub returns : goal.returns
returns g c = ap (λ (q : ℕ × List ℕ). q.1) c.finish-n.ensures
