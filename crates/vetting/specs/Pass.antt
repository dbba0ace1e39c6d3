-- The pass over tables in numbers, of any kind and length: ascending virtual address, an upper entry before those of its table, and
-- at one entry 8A, 8B, 8C, 8D in this order. The first refusal stands.
use Rattle.std.specs.Prelude.{Bool, ◌&&◌, List, [], ◌∷◌, ℕ, zero, suc, ◌+◌, ◌*◌, ◌/◌, ltb, length}
use Rattle.rules.specs.Sizes.{page_size}
use Rattle.rules.specs.Choice.{pick}
use Rattle.rules.specs.Tests.{Test, refuses, sieve}
use Rattle.tools.specs.Search.{first}
use Rattle.ranges.specs.declared.Mapping.{Mapping}
use Rattle.descriptors.specs.Numbers.{span, base_of}
use Rattle.descriptors.specs.Meaning.{is_table, reserved}
use Rattle.walks.specs.Walk.{entry_of}
use Rattle.vetting.specs.Answers.{otherwise}
use Rattle.vetting.specs.Reached.{again}
pub use Rattle.vetting.specs.Outcome.{Vetted, Accepted, Refused, table_outside, reserved_entry, table_again, answered_otherwise}

-- the first refusal of the n from a on, each after those before it
unfoldable pub or_else : Vetted → Vetted → Vetted
or_else Accepted v = v
or_else (Refused s x) v = Refused s x

unfoldable pub scan : (ℕ → Vetted) → ℕ → ℕ → Vetted
scan f a zero = Accepted
scan f a (suc n) = or_else (f a) (scan f (suc a) n)

-- where the part of a table's region begins that is its i-th entry's
abbrev pub place : ℕ → ℕ → ℕ → ℕ
place k a i = a + i * span k

-- a table that does not lie wholly in so many numbers
unfoldable pub outside : ℕ → ℕ → ℕ → Bool
outside size k e = is_table k e && ltb size (base_of page_size e / 8 + 512)

-- what is judged at an entry for the addresses from b on, before its addresses
abbrev pub tests : List ℕ → ℕ → ℕ → ℕ → List (Test ℕ)
tests numbers k b e =
    refuses (outside (length numbers) k e) table_outside
    ∷ refuses (reserved k e) reserved_entry
    ∷ refuses (again numbers k b e) table_again
    ∷ []

-- a refusal by one of these is told with the first address of the entry
abbrev pub refused_at : ℕ → ℕ → Vetted
refused_at b s = Refused s b

-- the first address that is answered otherwise, if it comes before the end
unfoldable pub told : ℕ → ℕ → Vetted
told end x = pick (ltb x end) (Refused answered_otherwise x) Accepted

-- each address of an entry that is no table
unfoldable pub compared : List Mapping → ℕ → ℕ → ℕ → Vetted
compared l k b e = told (b + span k) (first (otherwise l k e) b (span k))

module _ (numbers : List ℕ) (l : List Mapping) where
  -- an entry for the addresses from b on, with k levels below it: its tests, and then its table's entries or its addresses
  unfoldable pub judged : ℕ → ℕ → ℕ → Vetted
  judged zero b e = sieve (refused_at b) (tests numbers 0 b e) (compared l 0 b e)
  judged (suc k) b e =
      sieve (refused_at b) (tests numbers (suc k) b e)
      (pick (is_table (suc k) e) (scan (λ (i : ℕ). judged k (place k b i) (entry_of numbers (base_of page_size e) i)) 0 512) (compared l (suc k) b e))

  -- the i-th entry of the table at a byte offset, whose region begins at a
  unfoldable pub judged_at : ℕ → ℕ → ℕ → ℕ → Vetted
  judged_at k table a i = judged k (place k a i) (entry_of numbers table i)

  -- level 1 is at 0, and its first four entries are judged
  unfoldable pub vetted : Vetted
  vetted = pick (ltb (length numbers) 512) (Refused table_outside 0) (scan (judged_at 2 0 0) 0 4)
