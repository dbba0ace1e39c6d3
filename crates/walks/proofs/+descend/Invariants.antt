-- What is left of the levels falls at the call.
use Rattle.walks.proofs.+descend.Given as goal

abbrev pub decreases-descend : goal.decreases-descend
decreases-descend l = l.levels
