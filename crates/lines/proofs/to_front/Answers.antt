use Rattle.std.proofs.Common.{rules, arith}
use Rattle.lines.specs.Front.{moving_none, moving_more}
use Rattle.lines.proofs.Front.{front_order, front_past, front_done}
use Rattle.lines.proofs.to_front.Goals as goal
use Rattle.lines.proofs.to_front.Goals.{then-to-from-via-then-to-from, then-to-from-via-else-to-from+then-s-to}

pub returns-then-to-from : goal.returns-then-to-from
returns-then-to-from c =
    elim c.then-to-from.branch [
      | then-to-from-via-then-to-from w ↦ front_order _ _ _ (omega arith)
      | then-to-from-via-else-to-from+then-s-to w ↦ front_past _ _ _ (omega arith)
    ]

pub loop-i-init : goal.loop-i-init
loop-i-init c = moving_none _ _

pub loop-i-preserved : goal.loop-i-preserved
loop-i-preserved c = moving_more _ _ _ _ (search rules) c.loop-i.invariant

pub returns : goal.returns
returns c = front_done _ _ _ (search rules) (search rules) _ _ _ c.min-n.ensures (search rules) (search rules) c.loop-i.invariant
