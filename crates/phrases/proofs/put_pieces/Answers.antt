use Rattle.std.proofs.Common.{arith, refl, rules}
use Rattle.phrases.specs.Text.{said_none, said_on, said_room, said_more, said_all, taken}
use Rattle.phrases.proofs.put_pieces.Goals as goal

pub loop-p-init : goal.loop-p-init
loop-p-init c = (said_none _ _ _, omega arith)

pub overflow_sub-next : goal.overflow_sub-next
overflow_sub-next c =
    let t = taken _ _ _ c.min-n.ensures c.loop-p-test.true in
    said_on _ _ _ _ _ _ _ c.loop-p.invariant.0 _ _ _ t.0 c.loop-p.invariant.1 t.2 c.put_piece-next.ensures

pub overflow_add-width : goal.overflow_add-width
overflow_add-width c =
    let t = taken _ _ _ c.min-n.ensures c.loop-p-test.true in
    let r = said_room _ _ _ _ _ _ _ c.loop-p.invariant.0 _ _ _ t.0 c.loop-p.invariant.1 t.2 c.put_piece-next.ensures _ c.in_columns-width.ensures in
    search rules

pub loop-p-preserved : goal.loop-p-preserved
loop-p-preserved c =
    let t = taken _ _ _ c.min-n.ensures c.loop-p-test.true in
    (said_more _ _ _ _ _ _ _ c.loop-p.invariant.0 _ _ _ t.0 c.loop-p.invariant.1 t.2 c.put_piece-next.ensures _ _ t.1 c.in_columns-width.ensures refl, c.loop-p.invariant.1)

pub returns : goal.returns
returns c = said_all _ _ _ _ _ _ _ c.loop-p.invariant.0 _ c.min-n.ensures (search rules) c.loop-p-test.false c.loop-p.invariant.1
