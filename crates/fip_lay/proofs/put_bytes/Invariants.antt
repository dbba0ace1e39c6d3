-- `put_bytes` meets its promise, since each pass lays one byte, and the bytes that are left, laid behind it, make the same of the space.
use Prim.Native.Nat.{◌+◌, ◌-◌}
use Rattle.tools.specs.Laid.{laid}
use Rattle.fip_lay.specs.Laying.{Laying}
use Rattle.fip_lay.specs.Bytes.{copied}
use Rattle.fip_lay.proofs.put_bytes.Given as goal

abbrev pub invariant-loop-i : goal.invariant-loop-i
invariant-loop-i l = Laying l.initial.out (laid l.initial.out l.at (copied l.s l.from l.n)) l.out (l.at + l.i) (copied l.s (l.from + l.i) (l.n - l.i))
