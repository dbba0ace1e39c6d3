-- The numbers of a table. A level is known by how many levels are below it: 0 for pages, 1 for slots of 2 MiB, 2 for GiBs.
use Rattle.std.specs.Prelude.{◌≡◌, refl}
use Prim.Native.Nat.{ℕ, zero, suc, ◌+◌, ◌-◌, ◌*◌, ◌/◌, ◌%◌, ◌≤◌, ◌<◌}
use Rattle.std.proofs.Common.{div-mul-le_self, div-add-mod', mod-lt}
use native.Mathlib.Omega.{arith}
use Rattle.rules.specs.Sizes.{page_size, window_limit}

-- what a slot has in bytes
abbrev pub slot_size : ℕ
slot_size = 2097152

-- the bytes that one entry covers
unfoldable pub span : ℕ → ℕ
span zero = page_size
span (suc zero) = slot_size
span (suc (suc k)) = 1073741824

-- bits 1 to 0 of a page or a block; those of a table are 3
unfoldable pub kind_of : ℕ → ℕ
kind_of zero = 3
kind_of (suc k) = 1

-- bits 47 to that of the size, and zeros
abbrev pub base_of : ℕ → ℕ → ℕ
base_of size e = e % window_limit / size * size

-- attributes that a number gives: writable where bit 7 is clear, executable where bit 54 is
abbrev pub attr_of : ℕ → ℕ
attr_of e = 1 - e / 128 % 2 + 2 * (1 - e / 18014398509481984 % 2)

-- the number of a page or block: its kind, bit 10, bit 7 unless it may be written, its address, and bit 54 unless it may be run
abbrev pub leaf_number : ℕ → ℕ → ℕ → ℕ
leaf_number k phys attr = kind_of k + 1024 + 128 * (1 - attr % 2) + base_of page_size phys + 18014398509481984 * (1 - attr / 2 % 2)

-- the number of a table at a byte offset
abbrev pub table_number : ℕ → ℕ
table_number at = 3 + base_of page_size at

-- ---- how the code meets these
module _ (k r : ℕ) where
  pub span_page : k ≡ 0 → r ≡ page_size → r ≡ span k
  unfolding span
  span_page e f = rw e f

  pub span_slot : k ≡ 1 → r ≡ slot_size → r ≡ span k
  unfolding span
  span_slot e f = rw e f

  pub span_gib : (k ≡ 0 → ⊥) → (k ≡ 1 → ⊥) → r ≡ 1073741824 → r ≡ span k
  unfolding span
  span_gib d e f = let z : k ≡ suc (suc (k - 2)) = omega arith in rw z f

  pub kind_page : k ≡ 0 → r ≡ 3 → r ≡ kind_of k
  unfolding kind_of
  kind_page e f = rw e f

  pub kind_block : (k ≡ 0 → ⊥) → r ≡ 1 → r ≡ kind_of k
  unfolding kind_of
  kind_block d f = let z : k ≡ suc (k - 1) = omega arith in rw z f

pub ruleset sizes = (span_page, span_slot, span_gib, kind_page, kind_block)

-- a number by the span of a level
module _ (k x : ℕ) where
  pub whole_page : k ≡ 0 → x / page_size ≡ x / span k
  whole_page e = rw (← span_page k page_size e refl)

  pub whole_slot : k ≡ 1 → x / slot_size ≡ x / span k
  whole_slot e = rw (← span_slot k slot_size e refl)

  pub whole_gib : (k ≡ 0 → ⊥) → (k ≡ 1 → ⊥) → x / 1073741824 ≡ x / span k
  whole_gib d e = rw (← span_gib k 1073741824 d e refl)

  pub rest_page : k ≡ 0 → x % page_size ≡ x % span k
  rest_page e = rw (← span_page k page_size e refl)

  pub rest_slot : k ≡ 1 → x % slot_size ≡ x % span k
  rest_slot e = rw (← span_slot k slot_size e refl)

  pub rest_gib : (k ≡ 0 → ⊥) → (k ≡ 1 → ⊥) → x % 1073741824 ≡ x % span k
  rest_gib d e = rw (← span_gib k 1073741824 d e refl)

pub ruleset parts = (whole_page, whole_slot, whole_gib, rest_page, rest_slot, rest_gib)

-- ---- bounds
pub span_some : (k : ℕ) → page_size ≤ span k
unfolding span
span_some zero = omega arith
span_some (suc zero) = omega arith
span_some (suc (suc k)) = omega arith

pub span_most : (k : ℕ) → span k ≤ 1073741824
unfolding span
span_most zero = omega arith
span_most (suc zero) = omega arith
span_most (suc (suc k)) = omega arith

pub kind_most : (k : ℕ) → kind_of k ≤ 3
unfolding kind_of
kind_most zero = omega arith
kind_most (suc k) = omega arith

-- the same of a number that is said to be the span
module _ (size k : ℕ) (s : size ≡ span k) where
  pub span_pos : 0 < size
  span_pos = omega (arith, span_some k)

  pub base_fits : (e : ℕ) → e % window_limit / size * size < window_limit
  base_fits e = let a = div-mul-le_self (e % window_limit) size in omega arith

  pub rest_fits : (x : ℕ) → x % size < 1073741824
  rest_fits x = let b : x % size < size = mod-lt x span_pos in omega (arith, span_most k)

-- what is left behind the whole spans of a number is no more than it, and without that it is whole spans
module _ (k x r : ℕ) (e : r ≡ x % span k) where
  pub rest_le : r ≤ x
  rest_le = omega (arith, div-add-mod' x (span k))

  pub rest_off : x - r ≡ x / span k * span k
  rest_off = omega (arith, div-add-mod' x (span k))
