-- The owners of n pages, as a byte each or as a mark each, and the two conversions between them: what is answered, and what is left in the space that is written.
use Rattle.std.specs.Prelude.{Bool, ◌||◌, List, [], ◌∷◌, ◌++◌, ℕ, zero, suc, ◌+◌, ◌*◌, ◌/◌, ◌%◌, ltb, eqb, length, get_or, drop}
use Rattle.rules.specs.Sizes.{last_world, most_pages}
use Rattle.rules.specs.Choice.{pick}
use Rattle.rules.specs.Tests.{refuses, sieve}
use Rattle.tools.specs.Search.{any}
use Rattle.marks.specs.Digits.{digit}
use Rattle.marks.specs.Owners.{mark_of, owner_of}

-- ---- where the owner of a page stands
-- its byte
unfoldable pub byte_of : List ℕ → ℕ → ℕ
byte_of bytes page = get_or bytes page 0

-- its mark: sixteen of four bits in a number, the lowest page in the lowest bits
unfoldable pub mark_in : List ℕ → ℕ → ℕ
mark_in numbers page = digit (get_or numbers (page / 16) 0) (page % 16)

-- how many numbers have the marks of n pages: one that is begun is needed whole
abbrev pub numbers_for : ℕ → ℕ
numbers_for n = (n + 15) / 16

-- ---- 88: the page count is not 1 to 4096, or one of the spaces is too small, of so many bytes and so many numbers
unfoldable pub cramped : ℕ → ℕ → ℕ → Bool
cramped n bytes numbers = (eqb n 0 || ltb most_pages n) || (ltb bytes n || ltb numbers (numbers_for n))

-- ---- 89: a byte that is no owner; a mark that is no owner's, or past the last page one that is not 0
unfoldable pub stray_byte : List ℕ → ℕ → Bool
stray_byte bytes page = ltb last_world (byte_of bytes page)

unfoldable pub stray_mark : ℕ → List ℕ → ℕ → Bool
stray_mark n numbers page = pick (ltb page n) (ltb last_world (owner_of (mark_in numbers page))) (ltb 0 (mark_in numbers page))

-- among the first n bytes
unfoldable pub stray_bytes : ℕ → List ℕ → Bool
stray_bytes n bytes = any (stray_byte bytes) 0 n

-- among all marks of the numbers that are needed
unfoldable pub stray_marks : ℕ → List ℕ → Bool
stray_marks n numbers = any (stray_mark n numbers) 0 (16 * numbers_for n)

-- ---- what is written
-- the mark of a page: that of its owner, and 0 past the last page
unfoldable pub mark_for : ℕ → List ℕ → ℕ → ℕ
mark_for n bytes page = pick (ltb page n) (mark_of (byte_of bytes page)) 0

-- so many marks from that of a page on in one number, the first in its lowest bits
unfoldable pub gathered : (ℕ → ℕ) → ℕ → ℕ → ℕ
gathered mark page zero = 0
gathered mark page (suc k) = mark page + 16 * gathered mark (suc page) k

-- number i has the marks of the sixteen pages from 16 i on
unfoldable pub number_for : ℕ → List ℕ → ℕ → ℕ
number_for n bytes i = gathered (mark_for n bytes) (16 * i) 16

-- the byte of a page: the owner with its mark
unfoldable pub byte_for : List ℕ → ℕ → ℕ
byte_for numbers page = owner_of (mark_in numbers page)

-- the values of so many places, from a place on
unfoldable pub listed : (ℕ → ℕ) → ℕ → ℕ → List ℕ
listed f a zero = []
listed f a (suc k) = f a ∷ listed f (suc a) k

-- the first places of a space written, so many; those behind stay
unfoldable pub written : (ℕ → ℕ) → ℕ → List ℕ → List ℕ
written f k space = listed f 0 k ++ drop k space

-- ---- the conversions: the status, 0 where it was done, and the space after it
-- a refusal leaves the space as it was
unfoldable pub kept : List ℕ → ℕ → ℕ × List ℕ
kept space v = (v, space)

unfoldable pub packed : ℕ → List ℕ → List ℕ → ℕ × List ℕ
packed n bytes numbers =
    sieve (kept numbers)
    (refuses (cramped n (length bytes) (length numbers)) 0x88
    ∷ refuses (stray_bytes n bytes) 0x89
    ∷ [])
    (0, written (number_for n bytes) (numbers_for n) numbers)

unfoldable pub unpacked : ℕ → List ℕ → List ℕ → ℕ × List ℕ
unpacked n numbers bytes =
    sieve (kept bytes)
    (refuses (cramped n (length bytes) (length numbers)) 0x88
    ∷ refuses (stray_marks n numbers) 0x89
    ∷ [])
    (0, written (byte_for numbers) n bytes)
