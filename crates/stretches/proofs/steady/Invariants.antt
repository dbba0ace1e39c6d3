-- Each place narrows what the places before it left.
use Rattle.std.proofs.Common.{◌≡◌, ◌-◌}
use Rattle.rules.specs.Sizes.{most_mappings}
use Rattle.mapping.specs.Lists.{held, place}
use Rattle.mapping.specs.Places.{gathered}
use Rattle.stretches.specs.Steady.{steady}
use Rattle.stretches.proofs.steady.Given as goal

abbrev pub invariant-loop-i : goal.invariant-loop-i
invariant-loop-i l = steady (held l.lists l.world) l.x l.n ≡ steady (gathered (place l.lists l.world) l.i (most_mappings - l.i)) l.x l.left
