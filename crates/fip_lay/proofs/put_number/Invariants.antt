-- `put_number` meets its promise, since each pass lays the lowest byte of what is left of the number.
use Prim.Native.Nat.{◌+◌, ◌-◌}
use Rattle.tools.specs.Laid.{laid}
use Rattle.fip_lay.specs.Laying.{Laying}
use Rattle.fip_lay.specs.Bytes.{spell}
use Rattle.fip_lay.proofs.put_number.Given as goal

abbrev pub invariant-loop-i : goal.invariant-loop-i
invariant-loop-i l = Laying l.initial.out (laid l.initial.out l.at (spell l.n l.v)) l.out (l.at + l.i) (spell (l.n - l.i) l.rest)
