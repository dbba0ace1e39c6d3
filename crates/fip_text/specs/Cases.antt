-- Lines, names and identifiers, worked out from the definitions.
use Rattle.std.specs.Prelude.{◌≡◌, refl, List, [], ◌∷◌, ◌++◌, map, ℕ, replicate}
use Prim.Native.String.{String}
use Rattle.rules.specs.Choice.{pick}
use Rattle.tools.specs.Search.{all}
use Rattle.hex_digits.specs.Signs.{signs}
use Rattle.hex_digits.specs.Hex.{sign_of}
use Rattle.fip_entries.specs.Numbers.{two, four, eight}
use Rattle.fip_entries.specs.Entries.{offset, size, flags}
use Rattle.fip_identifiers.specs.Identifiers.{run, id_text}
use Rattle.fip_text.specs.Names.{names, is_text, name_among, name_text}
use Rattle.writing.specs.Decimal.{in_decimal}
use Rattle.fip_text.specs.Line.{number_text, numbers_text, line_text, lines_text, listed, list_text}

-- each identifier that is known has its own name
pub own_names : map (λ (p : String × String). name_text (signs p.0)) names ≡ map (λ (p : String × String). 32 ∷ signs p.1) names
unfolding name_text name_among is_text names all pick
own_names = refl

-- a number of eight bytes, the lowest first
abbrev small : ℕ → List ℕ
small x = x ∷ replicate 7 0

-- two images: one that is known, and one that is not, with the highest flags
pub two_lines :
    list_text ((0x58 ∷ 0x07 ∷ 0xe1 ∷ 0x6a ∷ 0x84 ∷ 0x59 ∷ 0x47 ∷ 0xbe ∷ 0x8e ∷ 0xd5 ∷ 0x64 ∷ 0x8e ∷ 0x8d ∷ 0xdd ∷ 0xab ∷ 0x0e ∷ [])
    ++ (small 136 ++ (small 0 ++ (small 7 ++ (replicate 16 0xff ++ (small 136 ++ (small 90 ++ replicate 8 0xff)))))))
    ≡ signs "5807e16a-8459-47be-8ed5-648e8dddab0e 136 0 7 FW_CONFIG\nffffffff-ffff-ffff-ffff-ffffffffffff 136 90 18446744073709551615\n"
unfolding list_text listed lines_text line_text numbers_text number_text in_decimal id_text run sign_of offset size flags eight four two name_text name_among is_text names all pick
two_lines = refl
