-- What is guaranteed of every conversion: it is done exactly where it may be, either trip gives back what went in, and a refused one leaves no trace.
use Rattle.std.specs.Prelude.{◌≡◌, List, [], ◌∷◌, ◌++◌, ℕ, ◌+◌, ◌*◌, ◌/◌, ◌%◌, ◌^◌, ◌≤◌, ◌<◌, length, get_or, take, drop}
use Rattle.rules.specs.Sizes.{last_world}
use Rattle.marks.specs.Owners.{mark_of}
use Rattle.conversions.specs.Conversions.{byte_of, mark_in, packed, unpacked}

-- the mark of a page in a table, in plain numbers
abbrev pub plain_mark : List ℕ → ℕ → ℕ
plain_mark table page = get_or table (page / 16) 0 / 16 ^ (page % 16) % 16

-- ---- what a conversion asks for
-- there are 1 to 4096 pages, and each space has room for them
pub record Room (n : ℕ) (bytes numbers : List ℕ) : Type 0 where
  pub some : 1 ≤ n
  pub most : n ≤ 4096
  pub bytes_fit : n ≤ length bytes
  pub numbers_fit : (n + 15) / 16 ≤ length numbers

-- each of the first n bytes is an owner
unfoldable pub Owned : ℕ → List ℕ → Type 0
Owned n bytes = (page : ℕ) → page < n → byte_of bytes page ≤ last_world

-- each of the first n marks is one of 8 to B, and the others in the numbers that these take are 0
pub record Marked (n : ℕ) (numbers : List ℕ) : Type 0 where
  pub low : (page : ℕ) → page < n → 0x8 ≤ mark_in numbers page
  pub high : (page : ℕ) → page < n → mark_in numbers page ≤ 0xB
  pub padding : (page : ℕ) → n ≤ page → page < 16 * ((n + 15) / 16) → mark_in numbers page ≡ 0

-- ---- what is so after a conversion that answers 0
-- bytes were packed over numbers, which are numbers' then
pub record Packed (n : ℕ) (bytes numbers numbers' : List ℕ) : Type 0 where
  -- There was room, and only owners were packed.
  pub had_room : Room n bytes numbers
  pub had_owners : Owned n bytes
  -- The space is as long as before.
  pub as_long : length numbers' ≡ length numbers
  -- Its numbers past those needed stay.
  pub past : drop ((n + 15) / 16) numbers' ≡ drop ((n + 15) / 16) numbers
  -- Each page has its owner's mark.
  pub each : (page : ℕ) → page < n → mark_in numbers' page ≡ mark_of (byte_of bytes page)
  -- The marks past the last page are 0.
  pub padding : (page : ℕ) → n ≤ page → page < 16 * ((n + 15) / 16) → mark_in numbers' page ≡ 0
  -- Unpacked into any space that has room, they are the n bytes that went in, and what lies behind stays.
  pub back : (space : List ℕ) → n ≤ length space → unpacked n numbers' space ≡ (0, take n bytes ++ drop n space)

-- numbers were unpacked over bytes, which are bytes' then
pub record Unpacked (n : ℕ) (numbers bytes bytes' : List ℕ) : Type 0 where
  -- There was room, and only owners' marks and no padding but 0 were unpacked.
  pub had_room : Room n bytes numbers
  pub had_marks : Marked n numbers
  -- The space is as long as before.
  pub as_long : length bytes' ≡ length bytes
  -- Its bytes past those needed stay.
  pub past : drop n bytes' ≡ drop n bytes
  -- Each byte is an owner, that of the page's mark.
  pub owners : Owned n bytes'
  pub each : (page : ℕ) → page < n → mark_of (byte_of bytes' page) ≡ mark_in numbers page
  -- Packed into any space that has room, they are the numbers that went in, and what lies behind stays.
  pub back :
      ((i : ℕ) → get_or numbers i 0 < 0x10000000000000000) → (space : List ℕ) → (n + 15) / 16 ≤ length space →
      packed n bytes' space ≡ (0, take ((n + 15) / 16) numbers ++ drop ((n + 15) / 16) space)

-- ---- a table in which each of n pages has its owner's mark, and every place behind them 0: `owner` says whose each page is
pub record Granules (n : ℕ) (table : List ℕ) (owner : ℕ → ℕ) : Type 0 where
  pub worlds : (page : ℕ) → page < n → owner page ≤ 3
  pub marks : (page : ℕ) → page < n → plain_mark table page ≡ get_or (0xA ∷ 0x8 ∷ 0x9 ∷ 0xB ∷ []) (owner page) 0
  pub padding : (page : ℕ) → n ≤ page → page < 4096 → plain_mark table page ≡ 0

-- it was unpacked over bytes, which are bytes' then, and this was answered
pub record Shown (n : ℕ) (owner : ℕ → ℕ) (bytes : List ℕ) (answer : ℕ) (bytes' : List ℕ) : Type 0 where
  -- It is one that unpacks.
  pub answered : answer ≡ 0
  -- Each byte is the page's owner.
  pub each : (page : ℕ) → page < n → byte_of bytes' page ≡ owner page
  -- Bytes past those needed stay.
  pub past : drop n bytes' ≡ drop n bytes
