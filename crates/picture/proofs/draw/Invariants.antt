-- Each pass lays one letter, and what is left makes the same of the space as the whole row did.
use Rattle.std.proofs.Common.{◌≡◌, ◌+◌, ◌-◌, length}
use Rattle.tools.specs.Laid.{laid}
use Rattle.picture.specs.Picture.{drawn}
use Rattle.picture.proofs.draw.Given as goal

abbrev pub invariant-loop-k : goal.invariant-loop-k
invariant-loop-k l = (length l.out ≡ length l.initial.out) × (laid l.initial.out l.at (drawn l.w l.owners l.lists l.first l.count) ≡ laid l.out (l.at + l.k) (drawn l.w l.owners l.lists (l.first + l.k) (l.count - l.k)))
