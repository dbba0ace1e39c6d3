-- Rows of numbers that a loop fills from the first on, each by a rule of its place.
use Rattle.std.specs.Prelude.{◌≡◌, List, ℕ, ◌+◌, ◌≤◌, ◌<◌, length, get_or, set}
use Rattle.std.proofs.Common.{◌∙◌, arith, below_more, length-set, get_or-set_same, get_or-set_other}

-- the first n numbers are those of the rule
abbrev pub Row : (ℕ → ℕ) → ℕ → List ℕ → Type 0
Row f n l = (j : ℕ) → j < n → get_or l j 0 ≡ f j

-- of n numbers the first i stand
pub record Filled (f : ℕ → ℕ) (n i : ℕ) (l : List ℕ) : Type 0 where
  pub size : length l ≡ n
  pub upto : i ≤ n
  pub done : Row f i l

module _ (f : ℕ → ℕ) (n : ℕ) where
  pub filled_none : (l : List ℕ) → length l ≡ n → Filled f n 0 l
  filled_none l h = record { size = h; upto = omega arith; done = λ j g. absurd (omega arith) }

  pub filled_more : (i x : ℕ) (l : List ℕ) → i < n → x ≡ f i → Filled f n i l → Filled f n (i + 1) (set l i x)
  filled_more i x l h e r = record {
    size = length-set l i x ∙ r.size;
    upto = omega arith;
    done = below_more (λ (j : ℕ). get_or (set l i x) j 0 ≡ f j) i
        (λ j g. get_or-set_other l i j x 0 (λ z. omega arith) ∙ r.done j g)
        (get_or-set_same l i x 0 (omega (arith, r.size)) ∙ e);
  }

  pub filled_all : (i : ℕ) (l : List ℕ) → n ≤ i → Filled f n i l → Row f n l
  filled_all i l h r j g = r.done j (omega arith)

pub ruleset filling = (filled_none, filled_more, filled_all)
