-- Lines and their frames, worked out from the definitions: those of the paper, and either side of 71 and 72.
use Rattle.std.specs.Prelude.{◌≡◌, refl, List, [], ◌∷◌, ◌++◌, map, ℕ, replicate}
use Rattle.rules.specs.Choice.{pick}
use Rattle.tools.specs.Search.{all}
use Rattle.hex_digits.specs.Hex.{digit_of, all_digits, value, numbers}
use Rattle.hex_digits.specs.Signs.{signs}
use Rattle.parsing.specs.Frame.{no_hex, sized, kind, frame_of, numbers_of}
use Rattle.parsing.specs.declared.Status.TheVariants.{NoHex, Unknown}
use Rattle.parsing.specs.declared.Frame.{Frame}
use Rattle.parsing.specs.declared.Frame.TheVariants.{Site, Entry, Name, Call, Arrival, Refused}

-- a line of n zeros
abbrev zeros : ℕ → List ℕ
zeros n = replicate n 48

abbrev rows : List (List ℕ × Frame)
rows =
    ((signs "110000000080000000001002", Site 0x80000000 16 2)
    ∷ (signs "120000000802", Name 0 8 2)
    ∷ (signs "1004040102", Entry 4 4 1 2)
    ∷ (signs "2001" ++ zeros 128, Call 1)
    ∷ (signs "21ff", Arrival 255)
    ∷ (signs "", Refused NoHex)
    ∷ (signs "210", Refused NoHex)
    ∷ (signs "21fF", Refused NoHex)
    ∷ (signs "21g0", Refused NoHex)
    ∷ (zeros 133, Refused NoHex)
    ∷ (zeros 134, Refused NoHex)
    ∷ (zeros 132, Refused Unknown)
    ∷ (signs "00", Refused Unknown)
    ∷ (signs "2100ff", Refused Unknown)
    ∷ (signs "20" ++ zeros 128, Refused Unknown)
    ∷ [])

pub frames : map (λ (r : List ℕ × Frame). frame_of r.0) rows ≡ map (λ (r : List ℕ × Frame). r.1) rows
unfolding frame_of no_hex kind sized all_digits all digit_of value pick
frames = refl

-- the eight numbers of a call
pub call_numbers :
    numbers_of (signs "200000000000840000000000000000000001000000000000000200000000000000030000000000000000000000000000000000000000000000000000000000000000")
    ≡ 0x84000000 ∷ 1 ∷ 2 ∷ 3 ∷ 0 ∷ 0 ∷ 0 ∷ 0 ∷ []
unfolding numbers value digit_of pick
call_numbers = refl
