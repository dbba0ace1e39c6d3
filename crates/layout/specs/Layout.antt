-- Which tables there are, and where: a table, and behind it those below its entries, in ascending order.
use Rattle.std.specs.Prelude.{List, [], ◌++◌, ℕ, zero, suc, ◌+◌, ◌*◌}
use Rattle.rules.specs.Choice.{pick}
use Rattle.ranges.specs.declared.Mapping.{Mapping}
use Rattle.descriptors.specs.Numbers.{span}
use Rattle.layout.specs.Rows.{rows, flat, total}
use Rattle.entries.specs.Entries.{deeper, entry}

-- where the addresses of entry i start, in a table whose own start at a
abbrev pub part : ℕ → ℕ → ℕ → ℕ
part k a i = a + i * span k

module _ (l : List Mapping) where
  -- how many tables the addresses of a table take: it, and those below its entries
  unfoldable pub tables : ℕ → ℕ → ℕ
  tables zero a = 1
  tables (suc k) a = 1 + total (λ (i : ℕ). pick (deeper l (suc k) (part (suc k) a i)) (tables k (part (suc k) a i)) 0) 512

  -- how many of them stand below an entry
  unfoldable pub below : ℕ → ℕ → ℕ
  below zero b = 0
  below (suc k) b = pick (deeper l (suc k) b) (tables k b) 0

  unfoldable pub below_at : ℕ → ℕ → ℕ → ℕ
  below_at k a i = below k (part k a i)

  -- the number of the first table below entry i of table t
  unfoldable pub next : ℕ → ℕ → ℕ → ℕ → ℕ
  next k a t i = t + 1 + total (below_at k a) i

  -- entry i of table t: a table's address is its byte offset
  unfoldable pub entry_at : ℕ → ℕ → ℕ → ℕ → ℕ
  entry_at k a t i = entry l k (part k a i) (4096 * next k a t i)

  -- table t and those below its entries, depth first
  unfoldable pub tree : ℕ → ℕ → ℕ → List ℕ
  tree zero a t = rows (entry_at zero a t) 512
  tree (suc k) a t =
      rows (entry_at (suc k) a t) 512
      ++ flat (λ (i : ℕ). pick (deeper l (suc k) (part (suc k) a i)) (tree k (part (suc k) a i) (next (suc k) a t i)) []) 512

  -- of the whole: level 1 is table 0, for the addresses from 0 on
  abbrev pub all_tables : ℕ
  all_tables = tables 2 0

  abbrev pub all_numbers : List ℕ
  all_numbers = tree 2 0 0
