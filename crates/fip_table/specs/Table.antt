-- A table: entries of 40 bytes each, one behind the other. Of a package it is what follows the header.
use Rattle.std.specs.Prelude.{◌≡◌, Bool, false, not, ◌&&◌, ◌||◌, List, ℕ, ◌+◌, ◌*◌, ◌/◌, ◌<◌, ltb, eqb, length}
use borrow.Author.Tests.{lt-ltb}
use Rattle.rules.specs.Choice.{pick}
use Rattle.tools.specs.Search.{any, first}
use Rattle.fip_entries.specs.Entries.{entry, offset, size, same, zeros, outside, shares}

-- ---- identifiers
-- entry k is blank: its identifier is all zero
unfoldable pub blank : List ℕ → ℕ → Bool
blank t k = same t (entry k) zeros 0

-- entries i and j have one identifier
unfoldable pub twins : List ℕ → ℕ → ℕ → Bool
twins t i j = same t (entry j) t (entry i)

-- an entry before i has the identifier of entry i
unfoldable pub repeated : List ℕ → ℕ → Bool
repeated t i = any (twins t i) 0 i

-- an identifier stands twice among n entries
unfoldable pub doubled : List ℕ → ℕ → Bool
doubled t n = any (repeated t) 0 n

-- entry k has this identifier; the first of n entries that has it, or n
unfoldable pub holds : List ℕ → List ℕ → ℕ → Bool
holds t id k = same t (entry k) id 0

unfoldable pub sought : List ℕ → ℕ → List ℕ → ℕ
sought t n id = first (holds t id) 0 n

-- ---- images
-- one of n images does not lie in the first `room` bytes
unfoldable pub strays : List ℕ → ℕ → ℕ → Bool
strays t room n = any (outside t room) 0 n

-- how long header, n entries and end entry are together: the table of the package
unfoldable pub table_end : ℕ → ℕ
table_end n = 16 + (40 * n + 40)

-- image i has bytes, and one of them is the table's or an earlier image's
unfoldable pub covers : List ℕ → ℕ → ℕ → Bool
covers t n i = not (eqb (size t i) 0) && (ltb (offset t i) (table_end n) || any (shares t i) 0 i)

-- one of n images has bytes where another or the table is
unfoldable pub crowded : List ℕ → ℕ → Bool
crowded t n = any (covers t n) 0 n

-- ---- where a table ends
-- how many whole entries are looked at in so many bytes: at most 65, which are 64 and an end entry
unfoldable pub slots : ℕ → ℕ
slots bytes = pick (ltb (bytes / 40) 65) (bytes / 40) 65

-- how many entries stand before the first blank one, or are looked at where none is
unfoldable pub count : List ℕ → ℕ
count t = first (blank t) 0 (slots (length t))

-- none of those looked at is an end entry
unfoldable pub unended : List ℕ → Bool
unended t = not (ltb (count t) (slots (length t)))

-- ---- a table that ends
module _ (t : List ℕ) where
  pub ended : count t < slots (length t) → false ≡ unended t
  unfolding unended
  ended h = rw (lt-ltb _ _ h)
