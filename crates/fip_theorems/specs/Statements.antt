-- What is guaranteed of every write: the reader gives everything back that was written, and a refused write leaves no trace.
use Rattle.std.specs.Prelude.{◌≡◌, Bool, true, ℕ, ◌+◌, ◌*◌, ◌<◌, length, take, drop, Result, Ok, Err}
use mathlib.Core.List.{List, [], ◌∷◌, Memᴰ}
use Rattle.fip_entries.specs.declared.Fault.{Fault}
use Rattle.fip_entries.specs.declared.Fault.TheVariants.{NoImage}
use Rattle.fip_entries.specs.Faults.{number_of, status_of}
use Rattle.fip_entries.specs.Numbers.{four, eight}
use Rattle.fip_entries.specs.Entries.{entry, zeros}
use Rattle.fip_table.specs.Table.{table_end}
use Rattle.fip_entries.specs.Entries as Entries
use Rattle.fip_read.specs.Reading.{behind, entries, judged, tabled, located, part_of}
use Rattle.fip_lay.specs.Bytes.{copied}
use Rattle.fip_plan.specs.Plan.{sizes, total, planned}

-- ---- image k of a plan d
abbrev pub identifier : List ℕ → ℕ → List ℕ
identifier d k = copied d (entry k) 16

-- its bytes, among the image bytes that are lent
abbrev pub image : List ℕ → List ℕ → ℕ → List ℕ
image d pool k = take (Entries.size d k) (drop (Entries.offset d k) pool)

-- where it is to lie in a package of n images: behind the table and the images before it, with no gap
abbrev pub place : List ℕ → ℕ → ℕ → ℕ
place d n k = table_end n + sizes d 0 k

-- ---- entry k of a table t has these fields
pub record Entry (t : List ℕ) (k : ℕ) (id : List ℕ) (offset size flags : ℕ) : Type 0 where
  pub has_identifier : copied t (entry k) 16 ≡ id
  pub has_offset : Entries.offset t k ≡ offset
  pub has_size : Entries.size t k ≡ size
  pub has_flags : Entries.flags t k ≡ flags

-- ---- what is so of a package p that was written for the plan d, whose images lie in the pool
pub record Package (serial flags : ℕ) (d pool p : List ℕ) : Type 0 where
  -- It is as long as its table and the images are together.
  pub long : length p ≡ total d (planned d)
  -- The reader accepts it.
  pub accepted : judged p ≡ Ok tt
  -- Its header has the name.
  pub has_name : four p 0 ≡ 0xaa640001
  -- Its serial number is the one that was given.
  pub has_serial : four p 4 ≡ serial
  -- Its flags are those that were given.
  pub has_flags : eight p 8 ≡ flags
  -- It has one entry for each image of the plan.
  pub many : entries p ≡ planned d
  -- The table that the reader shows is the bytes of these entries.
  pub shown : tabled p ≡ take (40 * planned d) (behind p)
  -- They are all there.
  pub shown_long : length (tabled p) ≡ 40 * planned d
  -- Each entry has its image's identifier, size and flags as planned, and as its offset the place where the images before it end.
  pub each : (k : ℕ) → k < planned d → Entry (tabled p) k (identifier d k) (place d (planned d) k) (Entries.size d k) (Entries.flags d k)
  -- The end entry is zero but for its offset, the package's length.
  pub last : Entry (behind p) (planned d) zeros (length p) 0 0
  -- Each image is found by its identifier, where its entry says.
  pub found : (k : ℕ) → k < planned d → located p (identifier d k) ≡ Ok (record { start = place d (planned d) k; size = Entries.size d k })
  -- What is found is the image that was given, byte for byte.
  pub given_back : (k : ℕ) → k < planned d → part_of p (located p (identifier d k)) ≡ image d pool k
  -- An identifier that no image of the plan has is refused as not found, which has the number 86 hex.
  pub absent : (id : List ℕ) → length id ≡ 16 → ((k : ℕ) → k < planned d → id ≡ identifier d k → ⊥) → (located p id ≡ Err NoImage) × (status_of (located p id) ≡ 0x86)
  -- So is the one of zeros alone.
  pub zeros_absent : (located p zeros ≡ Err NoImage) × (status_of (located p zeros) ≡ 0x86)

-- ---- what is so of a write that answers thus and leaves o' of the space o
-- where the plan breaks no rule
pub record Done (serial flags : ℕ) (d pool o : List ℕ) (answer : Result ℕ Fault) (o' : List ℕ) : Type 0 where
  -- The answer is the package's length.
  pub answered : answer ≡ Ok (total d (planned d))
  -- The space is as long as before.
  pub as_long : length o' ≡ length o
  -- Its bytes past the package stay.
  pub past : drop (total d (planned d)) o' ≡ drop (total d (planned d)) o
  -- Its bytes before that are the package.
  pub written : Package serial flags d pool (take (total d (planned d)) o')

-- where f is the first rule that it breaks
pub record Denied (f : Fault) (o : List ℕ) (answer : Result ℕ Fault) (o' : List ℕ) : Type 0 where
  -- The answer is that fault.
  pub answered : answer ≡ Err f
  -- No byte changes.
  pub kept : o' ≡ o
  -- Its number is one of the writer's.
  pub reason : Memᴰ (number_of f) (0x82 ∷ 0x83 ∷ 0x84 ∷ 0x85 ∷ 0x87 ∷ [])

-- ---- what is so where image k is set in the plan d, which is then d', and this is the answer
pub record Planned (d : List ℕ) (k : ℕ) (id : List ℕ) (offset size flags : ℕ) (answer : Bool) (d' : List ℕ) : Type 0 where
  -- The answer is that there is such an entry.
  pub answered : answer ≡ true
  -- It is as long as before, and so names as many images.
  pub as_long : length d' ≡ length d
  -- Its entry k has the fields that were given.
  pub made : Entry d' k id offset size flags
  -- All bytes of any other entry stay.
  pub others : (j : ℕ) → (j ≡ k → ⊥) → copied d' (entry j) 40 ≡ copied d (entry j) 40
