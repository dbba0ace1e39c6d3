-- `hex_write::put_pairs` meets its promise: each pass puts the signs of one byte more behind those that stand there.
use Rattle.hex_write.specs.Digits.{Put}
use Rattle.hex_write.proofs.put_pairs.Given as goal

abbrev pub invariant-loop-i : goal.invariant-loop-i
invariant-loop-i l = Put l.initial.out l.out l.bs l.at l.i
