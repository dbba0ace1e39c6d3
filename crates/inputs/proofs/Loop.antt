-- What a loop of reads keeps, whatever is kept from line to line and whatever a line means: that, and the bytes that wait, are what the reads so far have come to.
use Rattle.std.specs.Prelude.{◌≡◌, length}
use Rattle.std.proofs.Math.Path.{sym, ap}
use Rattle.std.proofs.Common.{◌∙◌, arith, take-append-drop, get_or-take}
use mathlib.Core.List.{List, [], ◌∷◌, ◌++◌, append-nil, append_assoc}
use Prim.Native.Nat.{ℕ, ◌≤◌, ◌<◌}
use Rattle.std.proofs.Math.ListN.{take, drop, length-take}
use Rattle.std.proofs.Math.Seq.{take-take}
use Rattle.lines.specs.Lines.{Unbroken}
use Rattle.lines.specs.Meant.{Blind}
use Rattle.lines.specs.Parts.{complete, unfinished}
use Rattle.inputs.specs.Cut.{unfinished_so}
use Rattle.inputs.specs.Folds.{left}
use Rattle.inputs.specs.Reads.{joined, left_over, all_left}
use Rattle.inputs.specs.Waiting.{ended, heard, front, taken}
use Rattle.inputs.specs.Carried.{Carried, carried, carried_end, heard_more}
use Rattle.inputs.proofs.Carried.{heard_end}
use Rattle.inputs.specs.Loop.{Ran, Serving}

module _ {S A : Type 0} (step : S → A → S) (f : List ℕ → A) where
  -- one read more, which left what waits where it was
  module _ (a₀ a : S) (s₀ : List ℕ) (kept : ℕ) (v : Serving step f a₀ a s₀ kept) (s : List ℕ) (n : ℕ) (same : take kept s ≡ take kept s₀)
      (a' : S) (kept' : ℕ) (s' : List ℕ) (e : Carried step f a (heard s kept n) a' kept' s') where
    -- and brought something
    pub serving_on : kept ≤ n → (n ≡ kept → ⊥) → Serving step f a₀ a' s' kept'
    unfolding left_over
    serving_on h d =
        let c : Carried step f a (take n s) a' kept' s' = rw (heard_more s kept n d) at e in
        let got : List ℕ = drop kept (take n s) in
        let all : take kept s₀ ++ got ≡ take n s = rw (← same, ← take-take kept n s h) (take-append-drop kept (take n s)) in
        record {
          reads = v.reads ++ got ∷ [];
          goes = λ rest.
              ap (left_over step f a₀ []) (append_assoc v.reads (got ∷ []) rest) ∙ v.goes (got ∷ rest)
              ∙ ap (λ (l : List ℕ). left_over step f (left step f a (complete l)) (take 133 (unfinished l)) rest) all
              ∙ rw (← c.leaves, ← c.waits);
          few = c.few;
          line = rw c.waits (short (unfinished (take n s)) (unfinished_so (take n s)));
        }
      where
        short : (l : List ℕ) → Unbroken l → Unbroken (take 133 l)
        short l u k h z = let w = length-take 133 l in u k (omega arith) (sym (get_or-take 133 l k 0 (omega arith)) ∙ z)

    -- or nothing: the input has ended
    pub served_all : Blind f → n ≡ kept → 133 < length s → Ran step f a₀ a'
    unfolding left_over
    served_all blind z h =
        let c : Carried step f a (ended (take kept s)) a' kept' s' = rw (heard_end s kept n z (omega (arith, v.few))) at e in
        record {
          input = joined v.reads;
          is = carried_end step f a (take kept s) a' kept' s' (rw same v.line) c ∙ ap (left step f a) same ∙ sym (v.goes [])
              ∙ ap (left_over step f a₀ []) (append-nil v.reads) ∙ all_left step f blind a₀ v.reads;
        }

  -- the same, where what was read is taken as a read calls for
  module _ (a₀ a : S) (s₀ : List ℕ) (kept : ℕ) (v : Serving step f a₀ a s₀ kept) (s : List ℕ) (n : ℕ) (same : take kept s ≡ take kept s₀)
      (a' : S) (kept' : ℕ) (s' : List ℕ) (e : (a', front kept' s') ≡ taken step f a (heard s kept n)) where
    pub taken_on : kept ≤ n → (n ≡ kept → ⊥) → Serving step f a₀ a' s' kept'
    taken_on = serving_on a₀ a s₀ kept v s n same a' kept' s' (carried step f a (heard s kept n) a' kept' s' e)

    pub taken_all : Blind f → n ≡ kept → 133 < length s → Ran step f a₀ a'
    taken_all = served_all a₀ a s₀ kept v s n same a' kept' s' (carried step f a (heard s kept n) a' kept' s' e)
