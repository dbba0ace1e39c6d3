-- What a word asks for: `map`, or an address of 1 to 16 hexadecimal digits, with or without 0x.
use Rattle.std.specs.Prelude.{Option, Some, None, Bool, ◌&&◌, List, ℕ, eqb, leb, length, get_or, drop}
use Rattle.rules.specs.Choice.{pick}
use Rattle.hex_digits.specs.Hex.{all_digits, value}
use Rattle.wanted.specs.declared.Wanted.{Wanted}
use Rattle.wanted.specs.declared.Wanted.TheVariants.{Map, Page}

-- the letters m, a and p
unfoldable pub is_map : List ℕ → Bool
is_map w = eqb (length w) 3 && (eqb (get_or w 0 0) 109 && (eqb (get_or w 1 0) 97 && eqb (get_or w 2 0) 112))

-- 0 and x
unfoldable pub has_prefix : List ℕ → Bool
has_prefix w = leb 2 (length w) && (eqb (get_or w 0 0) 48 && eqb (get_or w 1 0) 120)

-- an address in digits
unfoldable pub address_by : List ℕ → Option Wanted
address_by d = pick (leb 1 (length d) && (leb (length d) 16 && all_digits d)) (Some (Page (value d 0 (length d)))) None

-- what stands behind 0x, or the whole word
abbrev pub digits_in : List ℕ → List ℕ
digits_in w = pick (has_prefix w) (drop 2 w) w

unfoldable pub wanted_by : List ℕ → Option Wanted
wanted_by w = pick (is_map w) (Some Map) (address_by (digits_in w))
