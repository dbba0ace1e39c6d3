-- A package of one image, worked out by hand.
use Rattle.std.specs.Prelude.{◌≡◌, refl, List, [], ◌∷◌, ◌++◌, ℕ, replicate, Ok}
use Rattle.rules.specs.Choice.{pick}
use Rattle.tools.specs.Search.{all, any, first}
use Rattle.rules.specs.Tests.{sieve}
use Rattle.tools.specs.Laid.{laid}
use Rattle.fip_entries.specs.Numbers.{two, four, eight}
use Rattle.fip_entries.specs.Entries.{offset, size, agrees, same, outside, begins, shares}
use Rattle.fip_table.specs.Table.{blank, twins, repeated, doubled, holds, sought, strays, table_end, covers, crowded, slots, count, unended}
use Rattle.fip_read.specs.Reading.{wrong_length, wrong_header, faults, judged, doubts, placed, located, part_of}
use Rattle.fip_lay.specs.Bytes.{spell, copied}
use Rattle.fip_plan.specs.Plan.{sizes, total, hindrances}
use Rattle.fip_write.specs.Packed.{header, row, rows, ending, images, packed}
use Rattle.fip_write.specs.Writing.{wrote}

-- the image's identifier
abbrev name : List ℕ
name =
    0xa0 ∷ 0xa1 ∷ 0xa2 ∷ 0xa3 ∷ 0xa4 ∷ 0xa5 ∷ 0xa6 ∷ 0xa7 ∷ 0xa8 ∷ 0xa9 ∷ 0xaa ∷ 0xab ∷ 0xac ∷ 0xad ∷ 0xae ∷ 0xaf
    ∷ []

-- the plan: three bytes from byte 1 of the pool on, with flags 5
abbrev plan : List ℕ
plan =
    0xa0 ∷ 0xa1 ∷ 0xa2 ∷ 0xa3 ∷ 0xa4 ∷ 0xa5 ∷ 0xa6 ∷ 0xa7 ∷ 0xa8 ∷ 0xa9 ∷ 0xaa ∷ 0xab ∷ 0xac ∷ 0xad ∷ 0xae ∷ 0xaf
    ∷ 0x01 ∷ 0x00 ∷ 0x00 ∷ 0x00 ∷ 0x00 ∷ 0x00 ∷ 0x00 ∷ 0x00
    ∷ 0x03 ∷ 0x00 ∷ 0x00 ∷ 0x00 ∷ 0x00 ∷ 0x00 ∷ 0x00 ∷ 0x00
    ∷ 0x05 ∷ 0x00 ∷ 0x00 ∷ 0x00 ∷ 0x00 ∷ 0x00 ∷ 0x00 ∷ 0x00
    ∷ []

abbrev pool : List ℕ
pool = 0x06 ∷ 0x07 ∷ 0x08 ∷ 0x09 ∷ []

-- the package, with serial number 01020304 and flags 2: header, entry, end entry and image, the image at 96 and the end at 99
abbrev pack : List ℕ
pack =
    0x01 ∷ 0x00 ∷ 0x64 ∷ 0xaa
    ∷ 0x04 ∷ 0x03 ∷ 0x02 ∷ 0x01
    ∷ 0x02 ∷ 0x00 ∷ 0x00 ∷ 0x00 ∷ 0x00 ∷ 0x00 ∷ 0x00 ∷ 0x00
    ∷ 0xa0 ∷ 0xa1 ∷ 0xa2 ∷ 0xa3 ∷ 0xa4 ∷ 0xa5 ∷ 0xa6 ∷ 0xa7 ∷ 0xa8 ∷ 0xa9 ∷ 0xaa ∷ 0xab ∷ 0xac ∷ 0xad ∷ 0xae ∷ 0xaf
    ∷ 0x60 ∷ 0x00 ∷ 0x00 ∷ 0x00 ∷ 0x00 ∷ 0x00 ∷ 0x00 ∷ 0x00
    ∷ 0x03 ∷ 0x00 ∷ 0x00 ∷ 0x00 ∷ 0x00 ∷ 0x00 ∷ 0x00 ∷ 0x00
    ∷ 0x05 ∷ 0x00 ∷ 0x00 ∷ 0x00 ∷ 0x00 ∷ 0x00 ∷ 0x00 ∷ 0x00
    ∷ 0x00 ∷ 0x00 ∷ 0x00 ∷ 0x00 ∷ 0x00 ∷ 0x00 ∷ 0x00 ∷ 0x00 ∷ 0x00 ∷ 0x00 ∷ 0x00 ∷ 0x00 ∷ 0x00 ∷ 0x00 ∷ 0x00 ∷ 0x00
    ∷ 0x63 ∷ 0x00 ∷ 0x00 ∷ 0x00 ∷ 0x00 ∷ 0x00 ∷ 0x00 ∷ 0x00
    ∷ 0x00 ∷ 0x00 ∷ 0x00 ∷ 0x00 ∷ 0x00 ∷ 0x00 ∷ 0x00 ∷ 0x00
    ∷ 0x00 ∷ 0x00 ∷ 0x00 ∷ 0x00 ∷ 0x00 ∷ 0x00 ∷ 0x00 ∷ 0x00
    ∷ 0x07 ∷ 0x08 ∷ 0x09
    ∷ []

-- It is written into a space of 101 bytes, whose last two stay.
pub written : wrote 0x01020304 2 plan pool (replicate 101 0xff) ≡ (Ok 99, pack ++ (0xff ∷ 0xff ∷ []))
unfolding wrote hindrances sieve pick any blank same all agrees doubled repeated twins strays outside offset size eight four two total table_end sizes laid packed header rows row ending images spell copied
written = refl

-- The reader finds the image where it lies.
pub found : located pack name ≡ Ok (record { start = 96; size = 3 })
unfolding located doubts placed judged faults wrong_length wrong_header unended count slots first doubled repeated twins strays outside crowded covers shares begins sought holds sieve pick any blank same all agrees offset size eight four two table_end
found = refl

-- It is the image that was given.
pub given_back : part_of pack (located pack name) ≡ 0x07 ∷ 0x08 ∷ 0x09 ∷ []
unfolding part_of
given_back = rw found
