-- What stands in a space of which the first places were written.
use Rattle.std.specs.Prelude.{◌≡◌, refl, List, ◌++◌, ℕ, zero, suc, ◌+◌, ◌-◌, ◌≤◌, ◌<◌, drop}
use Rattle.std.proofs.Math.Path.{ap}
use Rattle.std.proofs.Common.{◌∙◌, drop-cons}
use native.Mathlib.Omega.{arith}
use Rattle.std.proofs.Math.ListN.{length, get_or, take, length-append, length-drop, get_or-append}
use Rattle.std.proofs.Math.Seq.{drop_at}
use Rattle.conversions.specs.Conversions.{listed, written}
use Rattle.conversions.specs.Laws.{length_listed}

listed_at : (f : ℕ → ℕ) (a k i : ℕ) → i < k → get_or (listed f a k) i 0 ≡ f (a + i)
unfolding listed
listed_at f a zero i h = absurd (omega arith)
listed_at f a (suc k) zero h = let z : a + 0 ≡ a = omega arith in rw z
listed_at f a (suc k) (suc i) h = let z : a + suc i ≡ suc a + i = omega arith in rw z (listed_at f (suc a) k i (omega arith))

listed_same : (f g : ℕ → ℕ) (a k : ℕ) → ((i : ℕ) → a ≤ i → i < a + k → f i ≡ g i) → listed f a k ≡ listed g a k
unfolding listed
listed_same f g a zero e = refl
listed_same f g a (suc k) e = rw (e a (omega arith) (omega arith), listed_same f g (suc a) k (λ i h l. e i (omega arith) (omega arith)))

listed_take : (l : List ℕ) (a k : ℕ) → a + k ≤ length l → listed (λ (i : ℕ). get_or l i 0) a k ≡ take k (drop a l)
unfolding listed
listed_take l a zero h = refl
listed_take l a (suc k) h = rw (drop-cons l a 0 (omega arith), listed_take l (suc a) k (omega arith))

module _ (f : ℕ → ℕ) (k : ℕ) (space : List ℕ) where
  -- its first places have what was written
  pub written_at : (i : ℕ) → i < k → get_or (written f k space) i 0 ≡ f i
  unfolding written
  written_at i h =
      let l : i < length (listed f 0 k) = rw (length_listed f 0 k) h in
      let z : 0 + i ≡ i = omega arith in
      get_or-append (listed f 0 k) (drop k space) 0 i l ∙ listed_at f 0 k i h ∙ ap f z

  -- those behind stay
  pub written_past : drop k (written f k space) ≡ drop k space
  unfolding written
  written_past = drop_at (listed f 0 k) (drop k space) k (length_listed f 0 k)

  -- it is as long as before
  pub written_long : k ≤ length space → length (written f k space) ≡ length space
  unfolding written
  written_long h = let e = length_listed f 0 k in let d = length-drop k space in let s = length-append (listed f 0 k) (drop k space) in omega arith

  -- what was written is the beginning of another list, where it is so place by place
  pub written_take : (l : List ℕ) → k ≤ length l → ((i : ℕ) → i < k → f i ≡ get_or l i 0) → written f k space ≡ take k l ++ drop k space
  unfolding written
  written_take l h e =
      let s : listed f 0 k ≡ take k l = listed_same f (λ (i : ℕ). get_or l i 0) 0 k (λ i a b. e i (omega arith)) ∙ listed_take l 0 k (omega arith) in
      rw s
