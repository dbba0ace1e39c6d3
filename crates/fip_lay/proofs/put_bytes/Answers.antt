use native.Mathlib.Omega.{arith}
use Rattle.fip_lay.specs.Laying.{bytes_start, bytes_go, bytes_end}
use borrow.Author.Rules.{rules}
use Rattle.fip_lay.proofs.put_bytes.Goals as goal

pub loop-i-init : goal.loop-i-init
loop-i-init c = bytes_start _ _ _ _ _

pub loop-i-preserved : goal.loop-i-preserved
loop-i-preserved c = bytes_go _ _ _ _ _ _ (omega arith) _ _ _ c.loop-i.invariant (search rules)

pub returns : goal.returns
returns c = bytes_end _ _ _ _ _ _ (omega arith) _ _ c.loop-i.invariant
