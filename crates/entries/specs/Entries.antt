-- What stands in an entry of a table, by the list of mappings and the addresses that the entry covers. A level is known by
-- how many levels are below it: 0 for pages, 1 for slots of 2 MiB, 2 for GiBs.
use Rattle.std.specs.Prelude.{ℕ, zero, suc, ◌+◌, ◌-◌, ◌*◌, ◌%◌, ◌^◌, Bool, true, false, not, ◌&&◌, List, ◌==◌, nat_le, None, Option, Some}
use Rattle.std.specs.Int.Count.{count_trailing_zeros}
use Rattle.mapping.specs.Leads.{To}
use Rattle.mapping.specs.declared.Lead.{Lead}
use Rattle.rules.specs.Choice.{pick}
use Rattle.rules.specs.Sizes.{page_size}
use Rattle.tools.specs.Search.{all}
use Rattle.ranges.specs.declared.Mapping.{Mapping}
use Rattle.mapping.specs.Mapping.{deciding, lead_of, touched}
use Rattle.descriptors.specs.Numbers.{span, leaf_number, table_number}

-- ---- one mapping throughout a slot

-- the two are one mapping, in all four numbers
unfoldable pub same : Mapping → Mapping → Bool
same m n = m.virt == n.virt && (m.phys == n.phys && (m.size == n.size && m.attr == n.attr))

-- it is this mapping that decides
unfoldable pub is_by : Mapping → Option Mapping → Bool
is_by m None = false
is_by m (Some n) = same m n

module _ (l : List Mapping) where
  -- the mapping decides page i of the slot that starts at b. The sum is cut to 64 bits, which in a slot of a table cuts nothing
  unfoldable pub decides : Mapping → ℕ → ℕ → Bool
  decides m b i = is_by m (deciding l ((b + i * page_size) % 2 ^ 64))

  -- and each of its 512 pages
  unfoldable pub throughout : Mapping → ℕ → Bool
  throughout m b = all (decides m b) 0 512

-- ---- a block

-- where the mapping leads an address, cut to 64 bits
abbrev pub physical : Mapping → ℕ → ℕ
physical m x = (m.phys + (x - m.virt)) % 2 ^ 64

-- the address has as many trailing zero bits as a block wants
unfoldable pub allowed : ℕ → Bool
allowed p = nat_le 21 (count_trailing_zeros 64 p)

module _ (l : List Mapping) where
  -- the slot by the mapping that decides its first address
  unfoldable pub block_by : ℕ → Option Mapping → Bool
  block_by b None = false
  block_by b (Some m) = allowed (physical m b) && throughout l m b

  -- one mapping decides throughout the slot, and the trailing zeros allow it. The slot's virtual start has them always
  unfoldable pub block : ℕ → Bool
  block b = block_by b (deciding l b)

-- ---- an entry

-- the number of a page or block that leads there
unfoldable pub leaf : ℕ → Option Lead → ℕ
leaf k None = 0
leaf k (Some d) = leaf_number k d.phys d.attr

module _ (l : List Mapping) where
  -- the entry itself says where its addresses lead: that of a page always does, that of a slot where it is a block, that of a GiB never
  unfoldable pub whole : ℕ → ℕ → Bool
  whole zero b = true
  whole (suc zero) b = block l b
  whole (suc (suc k)) b = false

  -- a table stands below the entry: a mapping touches its addresses, and it does not say itself where they lead
  unfoldable pub deeper : ℕ → ℕ → Bool
  deeper k b = not (whole k b) && touched l b (span k)

  -- the entry for the addresses from b on, `at` being the byte offset of the table below it, if one stands there
  unfoldable pub entry : ℕ → ℕ → ℕ → ℕ
  entry k b at = pick (whole k b) (leaf k (lead_of l b)) (pick (touched l b (span k)) (table_number at) 0)
