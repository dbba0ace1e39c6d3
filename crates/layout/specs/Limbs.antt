-- What stands below an entry of a table.
use Rattle.std.specs.Prelude.{List, [], ℕ, zero, suc}
use Rattle.rules.specs.Choice.{pick}
use Rattle.ranges.specs.declared.Mapping.{Mapping}
use Rattle.entries.specs.Entries.{deeper}
use Rattle.layout.specs.Layout.{part, next, tree}

module _ (l : List Mapping) where
  -- the tables below an entry, the first of them table t
  unfoldable pub limb : ℕ → ℕ → ℕ → List ℕ
  limb zero b t = []
  limb (suc k) b t = pick (deeper l (suc k) b) (tree l k b t) []

  unfoldable pub limb_at : ℕ → ℕ → ℕ → ℕ → List ℕ
  limb_at k a t i = limb k (part k a i) (next l k a t i)
