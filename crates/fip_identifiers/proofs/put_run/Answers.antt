use Rattle.std.proofs.Common.{arith, rules}
use Rattle.fip_identifiers.specs.Identifiers.{pair_put, running, ran_more}
use Rattle.fip_identifiers.proofs.put_run.Goals as goal

pub loop-i-init : goal.loop-i-init
loop-i-init c = search (running, rules)

pub loop-i-preserved : goal.loop-i-preserved
loop-i-preserved c =
    ran_more _ _ _ _ _ _ _ c.loop-i.invariant _ c.byte.result (search rules) c.byte.ensures
    (pair_put _ _ _ c.byte.result _ _ c.from.ensures (search rules) (omega (arith, c.loop-i.invariant.size)) c.put_byte.ensures)

pub returns : goal.returns
returns c = search (running, rules)
