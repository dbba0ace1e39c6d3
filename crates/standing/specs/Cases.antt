-- Lines of how things stand, worked out from the definitions.
use Rattle.std.specs.Prelude.{◌≡◌, refl, ◌++◌}
use Rattle.rules.specs.Choice.{pick}
use Rattle.cores.specs.Power.{power_of, off, pending, on, is_on, is_pending}
use Rattle.hex_digits.specs.Hex.{in_hex, sign_of}
use Rattle.hex_digits.specs.Signs.{signs}
use Rattle.writing.specs.Decimal.{in_decimal}
use Rattle.writing.specs.Put.{row, blanks}
use Rattle.words.specs.Words.{words, word_text}
use Rattle.phrases.specs.Sentence.{◌▹◌}
use Rattle.phrases.specs.Text.{indent, right_text, hex_text, gap_text, extended, upto, text_of, line_text}
use Rattle.standing.specs.Standing.{address_of, pages_word, attributes_word, origin_said, core_said, place_said, owner_said, range_said, maps_said, mapping_said, head_said, outside_said}

pub lines :
    line_text (head_said 41)
    ++ line_text (core_said 0 (power_of on 0 0) 2)
    ++ line_text (core_said 1 (power_of pending 0x80001000 7) 2)
    ++ line_text (core_said 2 (power_of off 0 0) 2)
    ++ line_text (range_said (record { base = 0x80000000; pages = 64 }) 0 16 2 3)
    ++ line_text (range_said (record { base = 0x80000000; pages = 64 }) 16 17 3 12)
    ++ line_text (range_said (record { base = 0x80000000; pages = 64 }) 17 64 0 0)
    ++ line_text (range_said (record { base = 0xfffff000; pages = 4 }) 0 1 2 3)
    ++ line_text (range_said (record { base = 0xfffff000; pages = 4 }) 1 4 3 12)
    ++ line_text (mapping_said 1 (record { virt = 0x10000; phys = 0x80003000; size = 8192; attr = 1 }))
    ++ line_text (outside_said 0x7ffff000)
    ≡ signs
    "how things stand after line 41\ncore 0: ON, Normal runs now\ncore 1: pending, to start at 80001000\ncore 2: OFF\n80000000 to 8000ffff    16 pages  Normal  line 3\n80010000 to 80010fff     1 page   Realm   line 12\n80011000 to 8003ffff    47 pages  Root    unnamed\nfffff000 to ffffffff                     1 page   Normal  line 3\n000100000000 to 000100002fff             3 pages  Realm   line 12\nSecure  maps 2 pages from 80003000 at 00010000, writable\n7ffff000 lies outside the window\n"
unfolding range_said place_said owner_said core_said mapping_said maps_said origin_said address_of pages_word attributes_word is_on is_pending line_text text_of upto extended ◌▹◌ right_text indent hex_text gap_text blanks row word_text words in_decimal in_hex sign_of pick
lines = refl
