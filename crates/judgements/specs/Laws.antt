-- How a function that knows its key meets a list of keys.
use Rattle.std.specs.Prelude.{◌≡◌, Bool, true, false, List, [], ◌∷◌, ℕ, eqb}
use Rattle.rules.specs.Tests.{contraries}
use Rattle.judgements.specs.Judge.{one_of}

module _ (key k : ℕ) (ks : List ℕ) (r : Bool) where
  pub one_here : eqb key k ≡ true → r ≡ true → r ≡ one_of key (k ∷ ks)
  unfolding one_of
  one_here e h = rw e h

  pub one_later : eqb key k ≡ false → r ≡ one_of key ks → r ≡ one_of key (k ∷ ks)
  unfolding one_of
  one_later e h = rw e h

pub one_none : (key : ℕ) (r : Bool) → r ≡ false → r ≡ one_of key []
unfolding one_of
one_none key r h = h

pub ruleset keys = (one_here, one_later, one_none, contraries)
