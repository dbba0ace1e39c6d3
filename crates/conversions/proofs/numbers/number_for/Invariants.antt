-- `number_for` meets its promise, since each pass puts the mark of one page, and sixteen marks put in 0 are the sixteen gathered.
use mathlib.Core.Path.{◌≡◌}
use Prim.Native.Nat.{◌+◌, ◌-◌, ◌*◌}
use Rattle.conversions.specs.Laws.{filled}
use Rattle.conversions.specs.Conversions.{mark_for, number_for}
use Rattle.conversions.proofs.numbers.number_for.Given as goal

abbrev pub invariant-loop-page : goal.invariant-loop-page
invariant-loop-page l = number_for l.n l.bytes l.i ≡ filled (mark_for l.n l.bytes) l.number l.page (16 * l.i + 16 - l.page)
