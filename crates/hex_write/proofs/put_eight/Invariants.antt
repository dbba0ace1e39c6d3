-- `hex_write::put_eight` meets its promise: each pass puts the lowest byte that is left behind those that stand there.
use Rattle.hex_write.specs.Bytes.{Lower}
use Rattle.hex_write.proofs.put_eight.Given as goal

abbrev pub invariant-loop-i : goal.invariant-loop-i
invariant-loop-i l = Lower l.initial.out l.out l.at l.v l.i l.y
