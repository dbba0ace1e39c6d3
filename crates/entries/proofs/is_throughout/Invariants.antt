-- `is_throughout` meets its promise, since each pass takes the pages that are decided alike off those that are still to be judged.
use Rattle.std.proofs.Common.{◌≡◌, ◌+◌}
use Rattle.tools.specs.Search.{all}
use Rattle.mapping.specs.Lists.{held}
use Rattle.entries.specs.Entries.{decides, throughout}
use Rattle.entries.proofs.is_throughout.Given as goal

abbrev pub invariant-loop-unseen : goal.invariant-loop-unseen
invariant-loop-unseen l = (l.page + l.unseen ≡ 512) × (throughout (held l.lists l.world) l.m l.slot ≡ all (decides (held l.lists l.world) l.m l.slot) l.page l.unseen)

abbrev pub decreases-loop-unseen : goal.decreases-loop-unseen
decreases-loop-unseen l = l.unseen
