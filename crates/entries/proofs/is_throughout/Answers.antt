use Rattle.std.proofs.Common.{rules}
use Rattle.tools.specs.Search.{all_stops, all_ends}
use Rattle.entries.specs.Entries.{throughout}
use Rattle.entries.specs.Tests.{page_not, pages_pass}
use Rattle.entries.proofs.is_throughout.Goals as goal

pub loop-unseen-init : goal.loop-unseen-init
unfolding throughout
loop-unseen-init c = search rules

pub loop-unseen-preserved : goal.loop-unseen-preserved
loop-unseen-preserved c = (search rules, pages_pass _ _ _ _ _ c.wrapping_add_u64-start.ensures.value _ c.is_decided_by.ensures _ _ _ c.loop-unseen.invariant.1 c.if-is_decided_by.true c.pages_alike-n.ensures)

pub returns-else-is_decided_by : goal.returns-else-is_decided_by
returns-else-is_decided_by c = all_stops _ _ _ _ c.loop-unseen.invariant.1 (search rules) (page_not _ _ _ _ _ c.wrapping_add_u64-start.ensures.value _ c.is_decided_by.ensures c.if-is_decided_by.false)

pub returns : goal.returns
returns c = all_ends _ _ _ _ c.loop-unseen.invariant.1 (search rules)
