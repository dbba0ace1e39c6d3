-- How digits become numbers, many alike at each step: two digits to a pair, a pair to a byte, and eight bytes, the lowest first, to a number whose bytes are then swapped.
use Rattle.std.specs.Prelude.{◌≡◌, ℕ, zero, suc, ◌+◌, ◌*◌, ◌/◌, ◌%◌, ◌<◌, List, slice_index, slice_index_or}
use Rattle.std.proofs.Common.{◌∙◌, arith}
use Rattle.std.proofs.Math.Nat.{add-zero}
use Rattle.hex_digits.specs.Rows.{Row}
use Rattle.hex_digits.specs.Swap.{swap, quotient, rest, swap_two_lem, swap_four_lem, swap_eight}

-- each of 128 digits is one
abbrev pub Small : List ℕ → Type 0
Small ds = (j : ℕ) → j < 128 → slice_index ds j < 16

abbrev pub pair_of : ℕ → ℕ → ℕ
pair_of a b = a + b * 256

abbrev pub pair_at : List ℕ → ℕ → ℕ
pair_at ds j = pair_of (slice_index ds (j * 2)) (slice_index ds (j * 2 + 1))

unfoldable pub packed : ℕ → ℕ
packed w = w % 16 * 16 + w / 256 % 16

abbrev pub byte_at : List ℕ → ℕ → ℕ
byte_at ws j = packed (slice_index ws j)

-- two bytes as a number, the lowest first; four of them; eight of them
abbrev pub low_two : List ℕ → ℕ → ℕ
low_two bs at = slice_index bs at + slice_index bs (at + 1) * 0x100

abbrev pub low_four : List ℕ → ℕ → ℕ
low_four bs at = low_two bs at + low_two bs (at + 2) * 0x10000

unfoldable pub low_first : List ℕ → ℕ → ℕ
low_first bs at = low_four bs at + low_four bs (at + 4) * 0x100000000

abbrev pub word_at : List ℕ → ℕ → ℕ
word_at bs i = swap (low_first bs (i * 8))

pub word_is : (bs : List ℕ) (i v x : ℕ) → v ≡ low_first bs (i * 8) → x ≡ swap v → x ≡ word_at bs i
word_is bs i v x e f = f ∙ rw e

-- the number of n digits, from a place on
unfoldable pub value_in : List ℕ → ℕ → ℕ → ℕ
value_in ds at zero = 0
value_in ds at (suc n) = value_in ds at n * 16 + slice_index ds (at + n)

abbrev pub word_of : List ℕ → ℕ → ℕ
word_of ds i = value_in ds (i * 16) 16

pack_pair : (a b : ℕ) → a < 16 → b < 16 → packed (pair_of a b) ≡ a * 16 + b
unfolding packed
pack_pair a b g h =
    let x = rest (pair_of a b) (b * 16) 16 a (omega arith) g in
    let y = quotient (pair_of a b) b 256 a (omega arith) (omega arith) in
    let z = rest b 0 16 b (omega arith) h in
    rw (x, y, z)

module _ (ds ws bs ys : List ℕ) (s : Small ds) (p : Row (pair_at ds) 64 ws) (b : Row (byte_at ws) 64 bs) (v : Row (word_at bs) 8 ys) where
  -- byte j is made of digits m and n
  one_byte : (j m n : ℕ) → j < 64 → j * 2 ≡ m → m + 1 ≡ n → (slice_index bs j ≡ slice_index ds m * 16 + slice_index ds n) × (slice_index bs j < 256)
  one_byte j m n h e f =
      let x : slice_index_or ds m 0 < 16 = s m (omega arith) in
      let y : slice_index_or ds n 0 < 16 = s n (omega arith) in
      let w : slice_index_or ws j 0 ≡ pair_of (slice_index ds m) (slice_index ds n) = p j h ∙ rw (e, f) in
      let q : slice_index_or bs j 0 ≡ slice_index ds m * 16 + slice_index_or ds n 0 = b j h ∙ rw w (pack_pair (slice_index ds m) (slice_index ds n) x y) in
      (q, omega arith)

  pub numbers_so : Row (word_of ds) 8 ys
  unfolding low_first value_in
  numbers_so i h =
      let b0 = one_byte (i * 8) (i * 16) (i * 16 + 1) (omega arith) (omega arith) (omega arith) in
      let b1 = one_byte (i * 8 + 1) (i * 16 + 2) (i * 16 + 3) (omega arith) (omega arith) (omega arith) in
      let b2 = one_byte (i * 8 + 2) (i * 16 + 4) (i * 16 + 5) (omega arith) (omega arith) (omega arith) in
      let b3 = one_byte (i * 8 + 2 + 1) (i * 16 + 6) (i * 16 + 7) (omega arith) (omega arith) (omega arith) in
      let b4 = one_byte (i * 8 + 4) (i * 16 + 8) (i * 16 + 9) (omega arith) (omega arith) (omega arith) in
      let b5 = one_byte (i * 8 + 4 + 1) (i * 16 + 10) (i * 16 + 11) (omega arith) (omega arith) (omega arith) in
      let b6 = one_byte (i * 8 + 4 + 2) (i * 16 + 12) (i * 16 + 13) (omega arith) (omega arith) (omega arith) in
      let b7 = one_byte (i * 8 + 4 + 2 + 1) (i * 16 + 14) (i * 16 + 15) (omega arith) (omega arith) (omega arith) in
      let lo : low_two bs (i * 8) < 0x10000 = omega (arith, b0.1, b1.1) in
      let hi : low_two bs (i * 8 + 4) < 0x10000 = omega (arith, b4.1, b5.1) in
      let half : low_four bs (i * 8) < 0x100000000 = omega (arith, b0.1, b1.1, b2.1, b3.1) in
      v i h ∙ swap_eight (low_four bs (i * 8)) (low_four bs (i * 8 + 4)) half
      ∙ rw (
        swap_four_lem (low_two bs (i * 8)) (low_two bs (i * 8 + 2)) lo,
        swap_four_lem (low_two bs (i * 8 + 4)) (low_two bs (i * 8 + 4 + 2)) hi,
        swap_two_lem _ _ b0.1,
        swap_two_lem _ _ b2.1,
        swap_two_lem _ _ b4.1,
        swap_two_lem _ _ b6.1,
        add-zero,
      )
      (omega (arith, b0.0, b1.0, b2.0, b3.0, b4.0, b5.0, b6.0, b7.0))
