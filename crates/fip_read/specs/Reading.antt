-- What the reader answers, for any bytes and any identifier.
use Rattle.std.specs.Prelude.{◌≡◌, refl, Bool, false, not, ◌||◌, List, [], ◌∷◌, ℕ, ◌+◌, ◌-◌, ◌*◌, ◌≤◌, ltb, eqb, length, take, drop, ⊤, Result, Ok, Err}
use Rattle.std.specs.Result.{is_ok, result_and}
use Rattle.std.proofs.Math.Path.{sym}
use Rattle.std.proofs.Common.{◌∙◌, ltb-false, eq-eqb, ne_eqb}
use native.Mathlib.Omega.{arith}
use Rattle.rules.specs.Choice.{pick, picked, passed, first_or, second_or, neither, not_first, not_second, not_true, not_false}
use Rattle.rules.specs.Tests.{Test, refuses, sieve, stops, goes, ends, said, numbers}
use Rattle.fip_entries.specs.declared.Fault.{Fault}
use Rattle.fip_entries.specs.declared.Fault.TheVariants.{WrongLength, WrongHeader, WrongTable, SameIdentifiers, WrongPlace, NoImage}
use Rattle.fip_entries.specs.Numbers.{four}
use Rattle.fip_entries.specs.Entries.{offset, size, same, zeros}
use Rattle.fip_table.specs.Table.{doubled, strays, crowded, count, unended, sought}
use Rattle.fip_read.specs.declared.Part.{Part}

-- ---- the package
-- under 16 or over 65536 bytes
unfoldable pub wrong_length : ℕ → Bool
wrong_length n = ltb n 16 || ltb 65536 n

-- another name, or serial number 0
unfoldable pub wrong_header : List ℕ → Bool
wrong_header s = not (eqb (four s 0) 0xaa640001) || eqb (four s 4) 0

-- what is tested, in this order, of a package s whose bytes behind the header are t with n entries
unfoldable pub faults : List ℕ → List ℕ → ℕ → List (Test Fault)
faults s t n =
    refuses (wrong_length (length s)) WrongLength
    ∷ refuses (wrong_header s) WrongHeader
    ∷ refuses (unended t) WrongTable
    ∷ refuses (doubled t n) SameIdentifiers
    ∷ refuses (strays t (length s) n || crowded t n) WrongPlace
    ∷ []

-- the bytes behind the header, and how many entries they begin with
abbrev pub behind : List ℕ → List ℕ
behind s = drop 16 s

abbrev pub entries : List ℕ → ℕ
entries s = count (behind s)

-- accepted, or the first fault of the package
unfoldable pub judged : List ℕ → Result ⊤ Fault
judged s = sieve Err (faults s (behind s) (entries s)) (Ok tt)

-- the entries of a package that has no fault, without the end entry
unfoldable pub tabled : List ℕ → List ℕ
tabled s = pick (is_ok (judged s)) (take (40 * entries s) (behind s)) []

-- ---- one image
-- what is tested of a question of an accepted package: that the identifier is all zero or no entry's
unfoldable pub doubts : List ℕ → ℕ → List ℕ → List (Test Fault)
doubts t n id = refuses (same id 0 zeros 0 || not (ltb (sought t n id) n)) NoImage ∷ []

-- where entry k's image lies
unfoldable pub placed : List ℕ → ℕ → Part
placed t k = record { start = offset t k; size = size t k }

-- where the image of an identifier lies, or why there is none: the fault of the package first
unfoldable pub located : List ℕ → List ℕ → Result Part Fault
located s id = result_and (judged s) (sieve Err (doubts (behind s) (entries s) id) (Ok (placed (behind s) (sought (behind s) (entries s) id))))

-- the part of the package that such an answer names
unfoldable pub part_of : List ℕ → Result Part Fault → List ℕ
part_of s (Ok p) = take p.size (drop p.start s)
part_of s (Err f) = []

-- where that part lies, if the package lies at p: in the same block, `start` bytes further on
unfoldable pub address_of : ℕ × ℕ → Result Part Fault → ℕ × ℕ
address_of p (Ok q) = (p.0, q.start + p.1)
address_of p (Err f) = p

-- ---- what the tests of the package mean
pub length_least : (n : ℕ) → wrong_length n ≡ false → 16 ≤ n
unfolding wrong_length
length_least n e = ltb-false n 16 (not_first (ltb n 16) _ e)

pub length_most : (n : ℕ) → wrong_length n ≡ false → n ≤ 65536
unfolding wrong_length
length_most n e = ltb-false 65536 n (not_second (ltb n 16) _ e)

pub right_header : (s : List ℕ) → four s 0 ≡ 0xaa640001 → (four s 4 ≡ 0 → ⊥) → false ≡ wrong_header s
unfolding wrong_header
right_header s e h = sym (neither _ _ (not_false _ (eq-eqb (four s 0) 0xaa640001 e)) (ne_eqb (four s 4) 0 h))

-- ---- what the code has in hand: t the bytes behind the header, n the number of entries
module _ (s t : List ℕ) (n : ℕ) (is-t : t ≡ behind s) (is-n : n ≡ count t) where
  pub judging : (r : Result ⊤ Fault) → r ≡ sieve Err (faults s t n) (Ok tt) → r ≡ judged s
  unfolding judged
  judging r h = h ∙ rw (is-n, is-t)

  -- k the entry that is sought, and where its image lies
  pub locating : (id : List ℕ) (k a l : ℕ) → Ok tt ≡ judged s → k ≡ sought t n id → a ≡ offset t k → l ≡ size t k → (r : Result Part Fault)
      → r ≡ sieve Err (refuses (same id 0 zeros 0 || not (ltb k n)) NoImage ∷ []) (Ok (record { start = a; size = l })) → r ≡ located s id
  unfolding located doubts placed
  locating id k a l is-v is-k is-a is-l r h = h ∙ rw (← is-v, is-a, is-l, is-k, is-n, is-t)

  -- the part behind the header that ends with the entries, at e
  pub tabling : (e : ℕ) → Ok tt ≡ judged s → e ≡ 40 * n → take (16 + e - 16) (behind s) ≡ tabled s
  unfolding tabled
  tabling e h g = let z : 16 + e - 16 ≡ 40 * n = omega arith in rw (z, is-n, is-t) (picked _ _ _ _ (rw (← h)) refl)

-- of the package's answer, and what an accepted one shows
shown_not : (r : Result ⊤ Fault) (t : List ℕ) → (r ≡ Ok tt → ⊥) → [] ≡ pick (is_ok r) t []
unfolding pick
shown_not (Ok tt) t h = absurd (h refl)
shown_not (Err f) t h = refl

pub untabled : (s : List ℕ) → (judged s ≡ Ok tt → ⊥) → [] ≡ tabled s
unfolding tabled
untabled s h = shown_not (judged s) (take (40 * entries s) (behind s)) h

-- a package that has a fault has it for every question
pub located_not : (s id : List ℕ) (f : Fault) → Err f ≡ judged s → Err f ≡ located s id
unfolding located
located_not s id f e = rw (← e)

-- the tests of a question, as they come
pub ruleset doubting = (stops, goes, ends, said, first_or, second_or, neither, not_true, not_false, numbers)

-- ---- what an answer shows: y, which the code has in hand and takes apart
module _ (x y : Result Part Fault) (w : y ≡ x) (q : Part) (e : y ≡ Ok q) where
  pub ok_is : x ≡ Ok q
  ok_is = sym w ∙ e

  pub ok_part : (s : List ℕ) → take (q.start + q.size - q.start) (drop q.start s) ≡ part_of s x
  unfolding part_of
  ok_part s = let z : q.start + q.size - q.start ≡ q.size = omega arith in rw (ok_is, z)

  pub ok_address : (p : ℕ × ℕ) → (p.0, q.start + p.1) ≡ address_of p x
  unfolding address_of
  ok_address p = rw ok_is

module _ (x y : Result Part Fault) (w : y ≡ x) (f : Fault) (e : y ≡ Err f) where
  refused_is : x ≡ Err f
  refused_is = sym w ∙ e

  pub refused_part : (s : List ℕ) → [] ≡ part_of s x
  unfolding part_of
  refused_part s = rw refused_is

  pub refused_address : (p : ℕ × ℕ) → p ≡ address_of p x
  unfolding address_of
  refused_address p = rw refused_is
