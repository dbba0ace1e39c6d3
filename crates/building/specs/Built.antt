-- What a build leaves: the tables from the first number on, where they fit.
use Rattle.std.specs.Prelude.{◌≡◌, Option, Some, None, List, ℕ, ◌*◌, ◌≤◌, ◌<◌, leb, length}
use Rattle.std.proofs.Math.Path.{refl}
use Rattle.std.proofs.Common.{arith, le-leb}
use Rattle.std.proofs.lemmas.Bool.{lt-leb}
use Rattle.rules.specs.Choice.{pick, picked, passed}
use Rattle.tools.specs.Laid.{laid}
use Rattle.ranges.specs.declared.Mapping.{Mapping}
use Rattle.layout.specs.Layout.{tables, tree}

-- the paper's number: 88 where the tables do not fit
abbrev pub status : Option ℕ → ℕ
status (Some n) = 0
status None = 0x88

-- how many tables there are, where they fit, and what the numbers become, with 512 of them for each table; those past the tables stay
unfoldable pub built : List Mapping → List ℕ → Option ℕ × List ℕ
built l numbers = pick (leb (512 * tables l 2 0) (length numbers)) (Some (tables l 2 0), laid numbers 0 (tree l 2 0 0)) (None, numbers)

-- ---- how the code meets it
module _ (l : List Mapping) (count room : ℕ) (n : List ℕ) (e : count ≡ tables l 2 0) (f : room ≡ length n) where
  pub built_not : room < 512 * count → (None, n) ≡ built l n
  unfolding built
  built_not h = passed _ _ _ _ (lt-leb (512 * tables l 2 0) (length n) (omega arith)) refl

  pub built_yes : (m : List ℕ) → 512 * count ≤ room → m ≡ laid n (512 * 0) (tree l 2 0 0) → (Some count, m) ≡ built l n
  unfolding built
  built_yes m h g = picked _ _ _ _ (le-leb (512 * tables l 2 0) (length n) (omega arith)) (rw (e, g))

pub ruleset outcomes = (built_not, built_yes)
