-- What is carried from one read to the next, whatever is kept and whatever a line means: part by part, after a read and at the end of the input.
use Rattle.std.specs.Prelude.{◌≡◌, refl, ℕ, ◌≤◌, take}
use Rattle.std.proofs.Math.Path.{ap}
use Rattle.std.proofs.Common.{◌∙◌, arith, ne_eqb}
use mathlib.Core.List.{List, [], ◌∷◌}
use Rattle.std.proofs.Math.ListN.{length, length-take}
use Rattle.rules.specs.Choice.{pick_no, left_false}
use Rattle.lines.specs.Lines.{Unbroken}
use Rattle.lines.specs.Meant.{meant, meant_closed}
use Rattle.lines.specs.Parts.{complete, unfinished}
use Rattle.inputs.specs.Cut.{line_complete}
use Rattle.inputs.specs.Folds.{left, left_alike}
use Rattle.inputs.specs.Waiting.{ended, heard, front, taken}

-- ---- the bytes that are taken
-- after a read that brought something: the first n
pub heard_more : (buf : List ℕ) (kept n : ℕ) → (n ≡ kept → ⊥) → heard buf kept n ≡ take n buf
unfolding heard
heard_more buf kept n d = pick_no _ _ _ (left_false _ _ (ne_eqb n kept d))

-- the bytes that wait become a line with its newline
pub ended_complete : (l : List ℕ) → complete (ended l) ≡ ended l
unfolding ended complete
ended_complete [] = refl
ended_complete (b ∷ l) = line_complete (b ∷ l)

-- which means what they mean
pub ended_meant : {A : Type 0} (f : List ℕ → A) (l : List ℕ) → Unbroken l → meant f (ended l) ≡ meant f l
unfolding ended
ended_meant f [] u = refl
ended_meant f (b ∷ l) u = meant_closed f (b ∷ l) u (λ z. omega arith)

-- ---- what is carried on
module _ {S A : Type 0} (step : S → A → S) (f : List ℕ → A) where
  -- after some bytes: what the complete lines leave, and at the front what is unfinished, or the first 133 bytes of it
  pub record Carried (a : S) (s : List ℕ) (a' : S) (kept' : ℕ) (buf' : List ℕ) : Type 0 where
    pub leaves : a' ≡ left step f a (complete s)
    pub waits : take kept' buf' ≡ take 133 (unfinished s)
    pub few : kept' ≤ 133

  pub carried : (a : S) (s : List ℕ) (a' : S) (kept' : ℕ) (buf' : List ℕ) → (a', front kept' buf') ≡ taken step f a s → Carried a s a' kept' buf'
  unfolding taken
  carried a s a' kept' buf' e =
      let r : kept' ≡ length (take 133 (unfinished s)) = ap (λ (q : S × (ℕ × List ℕ)). q.1.0) e in
      record {
        leaves = ap (λ (q : S × (ℕ × List ℕ)). q.0) e;
        waits = ap (λ (q : S × (ℕ × List ℕ)). q.1.1) e;
        few = omega (arith, length-take 133 (unfinished s));
      }

  -- at the end of the input all is taken
  pub carried_end : (a : S) (l : List ℕ) (a' : S) (kept' : ℕ) (buf' : List ℕ) → Unbroken l → Carried a (ended l) a' kept' buf' → a' ≡ left step f a l
  carried_end a l a' kept' buf' u c = c.leaves ∙ ap (left step f a) (ended_complete l) ∙ left_alike step f a _ _ (ended_meant f l u)
