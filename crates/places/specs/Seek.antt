-- What a search over a world's places came to, said of the answers that its test gave: `said i b` says that the test may answer b at place i.
use Rattle.std.specs.Prelude.{Bool, true, false, ℕ, ◌-◌, ◌≤◌, ◌<◌, Option, MatchOption}

-- none of the places from a on and below n passed
abbrev pub NonePass : (ℕ → Bool → Type 0) → ℕ → ℕ → Type 0
NonePass said a n = (j : ℕ) → a ≤ j → j < n → said j false

-- the lowest of n places that passed, if one did
pub record Lowest (said : ℕ → Bool → Type 0) (n : ℕ) (r : Option ℕ) : Type 0 where
  pub ends : MatchOption r (NonePass said 0 n) (λ i. (i < n) × (said i true × NonePass said 0 i))

-- how many of n places there are up to the last that passed, 0 where none did
pub record ToLast (said : ℕ → Bool → Type 0) (n r : ℕ) : Type 0 where
  pub within : r ≤ n
  pub passes : 0 < r → said (r - 1) true
  pub behind : NonePass said r n
