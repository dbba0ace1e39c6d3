-- Each pass puts the last digit of what is left, before those that stand there.
use Prim.Native.Nat.{◌+◌, ◌≤◌}
use lib.ListN.{length}
use Rattle.hex_write.specs.Downward.{Downward}
use Rattle.hex_write.proofs.put_digits.Given as goal

abbrev pub invariant-loop-i : goal.invariant-loop-i
invariant-loop-i l = Downward l.initial.out l.out l.at l.n l.x l.i l.y × (l.at + l.n ≤ length l.initial.out)
