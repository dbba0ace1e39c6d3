-- Where x leads nowhere, so does all before the next edge.
use borrow.Author.Rules.{rules}
use Rattle.vetting.specs.Free.{free_empty, free_steady, steady_fits}
use native.Mathlib.Omega.{arith}
use Rattle.vetting.proofs.free.free_until.Goals as goal

pub overflow_add-result : goal.overflow_add-result
overflow_add-result c = omega (arith, steady_fits _ _ _ _ c.steady.ensures)

pub returns-in-Some : goal.returns-in-Some
returns-in-Some c = free_empty _ _

pub returns-in-None : goal.returns-in-None
returns-in-None c = search (rules, free_steady)
