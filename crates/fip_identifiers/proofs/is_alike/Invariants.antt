-- `is_alike` meets its promise, since each pass finds one place more at which both agree.
use Rattle.std.proofs.Common.{◌≡◌, ℕ, ◌<◌, true}
use Rattle.fip_identifiers.specs.Identifiers.{agree}
use Rattle.fip_identifiers.proofs.is_alike.Given as goal

abbrev pub invariant-loop-i : goal.invariant-loop-i
invariant-loop-i l = (k : ℕ) → k < l.i → agree l.s l.t k ≡ true
