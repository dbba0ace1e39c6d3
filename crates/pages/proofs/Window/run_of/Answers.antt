-- `run_of` meets its promise, since each early return breaks one fact of a run in the window, and at the end all three hold.
use mathlib.Core.Path.{sym}
use native.Mathlib.Omega.{arith}
use borrow.Author.Rules.{rules}
use Rattle.pages.specs.Window.{HoldsRun, run_yes, run_no}
use Rattle.pages.proofs.Window.run_of.Goals as goal

pub returns-then-start-ne0 : goal.returns-then-start-ne0
returns-then-start-ne0 c = sym (run_no _ _ _ (λ (h : HoldsRun _ _ _). omega arith))

pub returns-then-start-self : goal.returns-then-start-self
returns-then-start-self c = sym (run_no _ _ _ (λ (h : HoldsRun _ _ _). omega arith))

pub returns-then-self-first : goal.returns-then-self-first
returns-then-self-first c = sym (run_no _ _ _ (λ (h : HoldsRun _ _ _). omega arith))

pub returns-then-self-first-2 : goal.returns-then-self-first-2
returns-then-self-first-2 c = sym (run_no _ _ _ (λ (h : HoldsRun _ _ _). omega arith))

pub returns : goal.returns
returns c = sym (run_yes _ _ _ (record { aligned = search rules; low = search rules; inside = search rules }))
