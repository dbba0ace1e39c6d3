-- What can be said of a read: which bytes stay, and how many there are then. Which bytes come nobody can say.
use Rattle.std.specs.Prelude.{◌≡◌, refl, List, ◌++◌, ℕ, ◌≤◌, ◌<◌, length, take}
use Rattle.std.proofs.Common.{arith, take_at, length-take-le}

-- a read behind the first `kept` bytes of s, after which there are n
pub record Filled (s : List ℕ) (kept n : ℕ) (s' : List ℕ) : Type 0 where
  -- none is lost
  pub more : kept ≤ n
  -- all lie inside, where those that waited did
  pub inside : kept ≤ length s → n ≤ length s'
  -- and these stay
  pub same : take kept s' ≡ take kept s

-- no room behind them
pub fills_none : (s : List ℕ) (kept : ℕ) → length s ≤ kept → Filled s kept kept s
fills_none s kept h = record { more = omega arith; inside = λ g. g; same = refl }

-- some room, over which something came
pub fills_behind : (s got : List ℕ) (kept n : ℕ) → kept < length s → kept ≤ n → n ≤ length (take kept s ++ got) → Filled s kept n (take kept s ++ got)
fills_behind s got kept n h g b =
    record { more = g; inside = λ y. b; same = take_at (take kept s) got kept (length-take-le kept s (omega arith)) }
