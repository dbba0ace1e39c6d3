-- `write` meets its promise, since what the old mark counts is taken away and what the new one counts is added.
use Prim.Native.Nat.{◌%◌}
use native.Mathlib.Omega.{arith}
use Rattle.marks.specs.Digits.{taken_less, given_fits, given_in, put_by}
use Rattle.marks.proofs.write.Goals as goal

pub overflow_mul-result : goal.overflow_mul-result
overflow_mul-result c = omega (arith, taken_less _ _ _ _ c.read-was.ensures c.unit_of-unit.ensures)

pub overflow_sub-result : goal.overflow_sub-result
overflow_sub-result c = taken_less _ _ _ _ c.read-was.ensures c.unit_of-unit.ensures

pub overflow_mul-result-2 : goal.overflow_mul-result-2
overflow_mul-result-2 c = omega (arith, given_fits _ _ (c.args.mark % 16) c.unit_of-unit.ensures (omega arith))

pub overflow_add-result : goal.overflow_add-result
overflow_add-result c = omega (arith, given_in _ _ _ _ c.read-was.ensures c.unit_of-unit.ensures (c.args.mark % 16) (omega arith) (omega arith))

pub returns : goal.returns
returns c = put_by _ _ _ _ c.read-was.ensures c.unit_of-unit.ensures _
