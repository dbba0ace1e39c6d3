-- Hexadecimal numbers at the front of a text.
use Rattle.std.specs.Prelude.{Bool, List, ℕ, ◌+◌, ◌*◌, ◌%◌, ◌^◌, ltb}
use Rattle.std.specs.List.{fold}
use Rattle.hex_digits.specs.Hex.{digit_of}

-- a sign that is no digit
abbrev pub is_no_digit : ℕ → Bool
is_no_digit sign = ltb 15 (digit_of sign)

-- the number of some digits, of which the last sixteen count
abbrev pub value : List ℕ → ℕ
value digits = fold (λ v d. v * 16 + digit_of d) 0 digits % 2 ^ 64
