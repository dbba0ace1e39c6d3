-- `locate` meets its promise, since it asks the tests of `doubts` in their order of a package that is accepted.
use mathlib.Core.Path.{refl}
use Rattle.std.proofs.lemmas.Result.{err_from_is_err_and}
use Rattle.fip_read.specs.Reading.{locating, located_not, doubting}
use Rattle.fip_read.specs.Accepted.{accepted_least}
use Rattle.fip_read.proofs.locate.Goals.{then-is_zero-via-then-is_zero, then-is_zero-via-else-is_zero+then-n-k}
use Rattle.fip_read.proofs.locate.Goals as goal

pub returns-in_err-judge : goal.returns-in_err-judge
returns-in_err-judge c = let p = err_from_is_err_and c.from_residual.result c.from_residual.ensures.1 in rw (p.1, p.2) (located_not _ _ _ c.in_err-judge.ensures)

pub behind-t-requires : goal.behind-t-requires
behind-t-requires c = accepted_least _ c.in_ok-judge.ensures

pub returns-then-is_zero : goal.returns-then-is_zero
returns-then-is_zero c = locating _ _ _ c.behind-t.ensures c.count_of-n.ensures _ _ _ _ c.in_ok-judge.ensures c.seek-k.ensures refl refl _
    (elim c.then-is_zero.branch [
      | then-is_zero-via-then-is_zero w ↦ search doubting depth 8
      | then-is_zero-via-else-is_zero+then-n-k w ↦ search doubting depth 8
    ])

pub returns : goal.returns
returns c = locating _ _ _ c.behind-t.ensures c.count_of-n.ensures _ _ _ _ c.in_ok-judge.ensures c.seek-k.ensures c.offset_of-start.ensures c.size_of-size.ensures _ (search doubting depth 8)
