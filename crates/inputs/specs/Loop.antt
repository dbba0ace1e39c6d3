-- What a loop of reads keeps, whatever is kept from line to line and whatever a line means: that, and the bytes that wait, are what the reads so far have come to.
use Rattle.std.specs.Prelude.{◌≡◌, refl}
use Rattle.std.proofs.Common.{arith}
use mathlib.Core.List.{List, [], ◌++◌}
use Prim.Native.Nat.{ℕ, ◌≤◌}
use Rattle.std.proofs.Math.ListN.{take}
use Rattle.lines.specs.Lines.{Unbroken}
use Rattle.inputs.specs.Folds.{left}
use Rattle.inputs.specs.Reads.{left_over}

module _ {S A : Type 0} (step : S → A → S) (f : List ℕ → A) where
  -- what an input leaves
  pub record Ran (a a' : S) : Type 0 where
    pub input : List ℕ
    pub is : a' ≡ left step f a input

  -- what was read, and what waits of it: whatever is read next, what is kept in the end is the same
  pub record Serving (a₀ a : S) (s : List ℕ) (kept : ℕ) : Type 0 where
    pub reads : List (List ℕ)
    pub goes : (rest : List (List ℕ)) → left_over step f a₀ [] (reads ++ rest) ≡ left_over step f a (take kept s) rest
    pub few : kept ≤ 133
    pub line : Unbroken (take kept s)

  pub serving_none : (a : S) (s : List ℕ) → Serving a a s 0
  serving_none a s = record { reads = []; goes = λ rest. refl; few = omega arith; line = λ k h. absurd (omega arith) }
