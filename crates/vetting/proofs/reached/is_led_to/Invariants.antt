-- Each pass asks one entry more.
use Rattle.std.proofs.Common.{◌≡◌, ◌-◌}
use Rattle.tools.specs.Search.{any}
use Rattle.vetting.specs.Reached.{leads}
use Rattle.vetting.proofs.reached.is_led_to.Given as goal

abbrev pub invariant-loop-i : goal.invariant-loop-i
invariant-loop-i l = any (leads l.numbers l.below l.to) 0 l.n ≡ any (leads l.numbers l.below l.to) l.i (l.n - l.i)
