-- `byte` meets its promise, since past the end every byte counts as 0.
use native.Mathlib.Omega.{arith}
use Rattle.fip_lay.specs.Bytes.{past_end}
use Rattle.fip_lay.proofs.byte.Goals as goal

pub returns-then-s-from : goal.returns-then-s-from
returns-then-s-from c = past_end c.args.s.now c.args.from c.args.i (omega arith)
