-- Each stretch that is alike at its first address is passed over whole.
use Rattle.vetting.specs.Alike.{Ahead}
use Rattle.mapping.specs.Lists.{held}
use Rattle.vetting.proofs.answers.first_otherwise.Given as goal

abbrev pub invariant-loop-left : goal.invariant-loop-left
invariant-loop-left l = Ahead (held l.lists l.world) l.below l.start l.number l.x l.left

abbrev pub decreases-loop-left : goal.decreases-loop-left
decreases-loop-left l = l.left
