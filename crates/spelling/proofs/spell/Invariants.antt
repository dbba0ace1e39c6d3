-- `spell` meets its promise, since each pass lays the bytes of one number behind those before it.
use Rattle.std.proofs.Common.{◌≡◌}
use Rattle.tools.specs.Laid.{laid}
use Rattle.spelling.specs.Spelled.{spelled}
use Rattle.spelling.proofs.spell.Given as goal

abbrev pub invariant-loop-i : goal.invariant-loop-i
invariant-loop-i l = l.bytes ≡ laid l.initial.bytes 0 (spelled l.numbers l.i)
