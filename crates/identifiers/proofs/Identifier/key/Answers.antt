-- A fast identifier loses its hint, and no other bit; any other is its own key.
use native.Mathlib.Omega.{arith}
use Rattle.identifiers.specs.Identifier.{keys_fast, keys_other}
use borrow.Author.Rules.{rules}
use Rattle.identifiers.proofs.Identifier.key.Goals as goal

pub returns-then-n-eq1 : goal.returns-then-n-eq1
returns-then-n-eq1 c = keys_fast _ _ (search rules) (omega arith)

pub returns : goal.returns
returns c = keys_other _ (search rules)
