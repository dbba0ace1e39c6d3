-- Which new mappings are granted, in plain numbers: exactly those that may be made.
use Rattle.std.specs.Prelude.{◌≡◌, ℕ, ◌+◌, ◌<◌, ◌≤◌, List, length}
use Rattle.rules.specs.Sizes.{most_mappings}
use Rattle.pages.specs.Owners.{owner}
use Rattle.pages.specs.declared.Window.{Window}
use Rattle.mapping.specs.Entries.{Among, Beside}
use Rattle.mapping.specs.Sound.{page_start, Formed}
use Rattle.ranges.specs.declared.Mapping.{Mapping}

-- a mapping that a world with this list may make
pub record Mappable (w : Window) (o : List ℕ) (world : ℕ) (l : List Mapping) (m : Mapping) : Type 0 where
  -- it is well formed by itself
  pub formed : Formed w m
  -- fewer than sixteen are held
  pub room : length l < most_mappings
  -- it may stand beside each of them
  pub beside : (n : Mapping) → Among n l → Beside m n
  -- the world owns each of its pages
  pub owned : (page : ℕ) → m.phys ≤ page_start w page → page_start w page < m.phys + m.size → owner o page ≡ world
