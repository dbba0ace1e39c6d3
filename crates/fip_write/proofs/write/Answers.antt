-- `write` meets its promise, since of a plan that breaks no rule header, entries, end entry and images lie one behind the other, and of
-- another the space is not touched.
use Rattle.std.proofs.lemmas.Result.{err_from_is_err_and}
use Rattle.fip_plan.specs.Weighing.{capped_is}
use Rattle.fip_write.specs.Laying.{packed_laid}
use Rattle.fip_write.specs.Writing.{fits, wrote_filled, wrote_not}
use Rattle.fip_write.proofs.write.Goals as goal

pub returns-in_err-weigh : goal.returns-in_err-weigh
returns-in_err-weigh c = let p = err_from_is_err_and c.from_residual.result c.from_residual.ensures.1 in rw (p.1, p.2) (wrote_not _ _ _ _ _ _ c.in_err-weigh.ensures)

pub put_rows-requires : goal.put_rows-requires
put_rows-requires c = (fits _ _ _ _ _ c.in_ok-weigh.ensures c.slots_of-n.ensures.0).1

pub put_images-requires : goal.put_images-requires
put_images-requires c = (fits _ _ _ _ _ c.in_ok-weigh.ensures c.slots_of-n.ensures.0).1

pub returns : goal.returns
returns c =
    let f = (fits _ _ _ _ _ c.in_ok-weigh.ensures c.slots_of-n.ensures.0).1 in
    let e = capped_is _ _ c.length_of-length.ensures f in
    wrote_filled _ _ _ _ _ _ _ _ c.in_ok-weigh.ensures c.slots_of-n.ensures.0 e (search packed_laid)
