-- `all_bear` meets its promise, since each pass takes one stride off a run that is judged as a whole: what is left decides.
use mathlib.Core.Path.{◌≡◌}
use Rattle.tools.specs.Search.{all}
use Rattle.granules.specs.Runs.{all_bear, bears}
use Rattle.granules.proofs.all_bear.Given as goal

abbrev pub invariant-loop-unseen : goal.invariant-loop-unseen
invariant-loop-unseen l = all_bear l.t l.first l.count l.m ≡ all (bears l.t l.m) l.page l.unseen

abbrev pub decreases-loop-unseen : goal.decreases-loop-unseen
decreases-loop-unseen l = l.unseen
