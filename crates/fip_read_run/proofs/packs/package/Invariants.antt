-- `package` stays in its bounds, since no image has more than 5 bytes.
use Rattle.std.proofs.Common.{◌≤◌, ◌+◌, ◌*◌}
use Rattle.fip_read_run.proofs.packs.package.Given as goal

abbrev pub invariant-loop-k : goal.invariant-loop-k
invariant-loop-k l = l.offset ≤ 56 + 40 * l.n + 5 * l.k
