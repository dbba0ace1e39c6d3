use native.Mathlib.Omega.{arith}
use Rattle.fip_lay.specs.Laying.{number_starts, number_goes, number_ends}
use Rattle.fip_lay.proofs.put_number.Goals as goal

pub loop-i-init : goal.loop-i-init
loop-i-init c = number_starts _ _ _ _

pub loop-i-preserved : goal.loop-i-preserved
loop-i-preserved c = number_goes _ _ _ _ _ _ (omega arith) _ c.loop-i.invariant

pub returns : goal.returns
returns c = number_ends _ _ _ _ _ _ (omega arith) _ c.loop-i.invariant
