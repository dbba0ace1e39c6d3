-- Words behind the program's name, worked out from the definition: the picture, addresses with and without 0x, and words that mean nothing.
use Rattle.std.specs.Prelude.{◌≡◌, refl, Option, Some, None, List, [], ◌∷◌, map}
use Prim.Native.String.{String}
use Rattle.rules.specs.Choice.{pick}
use Rattle.tools.specs.Search.{all}
use Rattle.hex_digits.specs.Hex.{digit_of, all_digits, value}
use Rattle.hex_digits.specs.Signs.{signs}
use Rattle.wanted.specs.declared.Wanted.{Wanted}
use Rattle.wanted.specs.declared.Wanted.TheVariants.{Map, Page}
use Rattle.wanted.specs.Wanted.{is_map, has_prefix, address_by, wanted_by}

abbrev wanted : List String → List (Option Wanted)
wanted l = map (λ (s : String). wanted_by (signs s)) l

pub known_words :
    wanted ("map" ∷ "80030000" ∷ "0x80030000" ∷ "0" ∷ "0x0" ∷ "ffffffffffffffff" ∷ "0x00000000000000ff" ∷ [])
    ≡ Some Map ∷ Some (Page 0x80030000) ∷ Some (Page 0x80030000) ∷ Some (Page 0) ∷ Some (Page 0) ∷ Some (Page 0xffffffffffffffff) ∷ Some (Page 0xff) ∷ []
unfolding wanted_by is_map has_prefix address_by all_digits all digit_of value pick
known_words = refl

pub unknown_words :
    wanted ("" ∷ "0x" ∷ "Map" ∷ "mapp" ∷ "8003000G" ∷ "8003000A" ∷ "0X80030000" ∷ "0x0x1" ∷ "10000000000000000" ∷ "0x10000000000000000" ∷ "80030000 " ∷ "-1" ∷ [])
    ≡ None ∷ None ∷ None ∷ None ∷ None ∷ None ∷ None ∷ None ∷ None ∷ None ∷ None ∷ None ∷ []
unfolding wanted_by is_map has_prefix address_by all_digits all digit_of value pick
unknown_words = refl
