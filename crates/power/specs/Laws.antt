-- How the code finds the page where a core may start, and its owner.
use Rattle.std.specs.Prelude.{◌≡◌, Bool, true, false, ◌&&◌, List, ℕ, eqb, None, Option, Some}
use Rattle.rules.specs.Tests.{numbers}
use Rattle.pages.specs.Owners.{owner}
use Rattle.judgements.specs.Judge.{owned_at}

-- ---- the owner of the page at a place
module _ (o : List ℕ) (k l : Option ℕ) (world : ℕ) (same : k ≡ l) where
  pub owned_page : (page : ℕ) (r : Bool) → k ≡ Some page → r ≡ eqb (owner o page) world → r ≡ owned_at o l world
  unfolding owned_at
  owned_page page r e h = rw (← same, e) h

  pub owned_outside : (r : Bool) → k ≡ None → r ≡ false → r ≡ owned_at o l world
  unfolding owned_at
  owned_outside r e h = rw (← same, e) h

pub owned_said : (o : List ℕ) (page x world : ℕ) (r : Bool) → x ≡ owner o page → r ≡ eqb x world → r ≡ eqb (owner o page) world
owned_said o page x world r e h = rw (← e) h

-- ---- both of two tests, as a function answers them
pub and_fails : (a b r : Bool) → a ≡ false → r ≡ false → r ≡ (a && b)
and_fails a b r p q = rw (p, q)

pub and_goes : (a b r : Bool) → a ≡ true → r ≡ b → r ≡ (a && b)
and_goes a b r p q = rw (p, q)

pub ruleset places = (owned_page, owned_outside, and_fails, and_goes, owned_said, numbers)
