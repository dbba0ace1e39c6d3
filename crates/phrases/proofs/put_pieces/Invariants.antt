-- `put_pieces` meets its promise, since each pass puts one piece more behind those that stand there.
use Rattle.std.proofs.Common.{◌+◌, ◌≤◌, length}
use Rattle.phrases.specs.Text.{Said}
use Rattle.phrases.proofs.put_pieces.Given as goal

abbrev pub invariant-loop-p : goal.invariant-loop-p
invariant-loop-p l = Said l.initial.out l.out l.fn.s l.at l.here l.width l.p-index × (l.at + 3072 ≤ length l.initial.out)
