-- The table of calls, text for text, and calls that were handed over, worked out from the definitions.
use Rattle.std.specs.Prelude.{◌≡◌, refl, Bool, true, false, List, [], ◌∷◌, map, ℕ}
use Prim.Native.String.{String}
use Rattle.rules.specs.Choice.{pick}
use Rattle.tools.specs.Search.{first}
use Rattle.identifiers.specs.Identifier.{parts, argument, key_of, identifier_of}
use Rattle.judgements.specs.Judge.{args_of}
use Rattle.hex_digits.specs.Hex.{in_hex, sign_of}
use Rattle.hex_digits.specs.Signs.{signs}
use Rattle.writing.specs.Decimal.{in_decimal}
use Rattle.writing.specs.Put.{row, blanks}
use Rattle.words.specs.Words.{words, word_text}
use Rattle.phrases.specs.Sentence.{blank, ◌▹◌}
use Rattle.phrases.specs.Text.{hex_text, value_text, extended, upto, text_of}
use Rattle.asking.specs.Names.{named_from, counted}
use Rattle.asking.specs.Forms.{forms, key_at, row_at, is_form, form, register, valued, slot, slots, asked}

-- calls, beside the texts that they have to have
abbrev Rows : Type 0
Rows = List (List ℕ × String)

abbrev Right : Bool → Rows → Type 0
Right handed rows = map (λ (p : List ℕ × String). text_of (asked blank handed p.0)) rows ≡ map (λ (p : List ℕ × String). signs p.1) rows

-- each call, and what has no row
pub each_call :
    Right false
    (
    (0x80000000 ∷ [], "tell the version of calls")
    ∷ (0x80000001 ∷ 0x84000000 ∷ [], "tell whether this call is known: 84000000")
    ∷ (0x84000000 ∷ [], "tell the version of core power")
    ∷ (0x84000002 ∷ [], "turn this core OFF")
    ∷ (0x84000003 ∷ 1 ∷ 0x80001000 ∷ 7 ∷ [], "start core 1 at 80001000 with 07")
    ∷ (0xc4000003 ∷ 2 ∷ 0x80001000 ∷ 7 ∷ [], "start core 2 at 80001000 with 07")
    ∷ (0x84000004 ∷ 1 ∷ 0 ∷ [], "tell the state of core 1 at level 0")
    ∷ (0xc4000004 ∷ 2 ∷ 1 ∷ [], "tell the state of core 2 at level 1")
    ∷ (0x8400000a ∷ 0xc4000003 ∷ [], "tell whether core power knows c4000003")
    ∷ (0xc40001b0 ∷ 0x80030000 ∷ [], "take the page at 80030000")
    ∷ (0xc40001b1 ∷ 0x80030000 ∷ [], "give back the page at 80030000")
    ∷ (0xc2000010 ∷ 0x80038000 ∷ 4 ∷ [], "take 4 pages from 80038000")
    ∷ (0xc2000011 ∷ 0x8003a000 ∷ 1 ∷ [], "give back 1 page from 8003a000")
    ∷ (0xc2000012 ∷ 0x80040008 ∷ [], "tell whether it owns 80040008")
    ∷ (0xc2000020 ∷ 0x80040000 ∷ 0x1000 ∷ 8192 ∷ 0 ∷ [], "map 80040000 at 00001000, 8192 bytes, read only")
    ∷ (0xc2000020 ∷ 0x80040000 ∷ 0x1000 ∷ 1 ∷ 1 ∷ [], "map 80040000 at 00001000, 1 byte, writable")
    ∷ (0xc2000020 ∷ 0x100000000 ∷ 0x1000 ∷ 0 ∷ 2 ∷ [], "map 000100000000 at 00001000, 0 bytes, executable")
    ∷ (0xc2000020 ∷ 0 ∷ 0 ∷ 4096 ∷ 3 ∷ [], "map 00000000 at 00000000, 4096 bytes, attributes 3")
    ∷ (0xc2000021 ∷ 0x1000 ∷ 8192 ∷ [], "unmap 00001000, 8192 bytes")
    ∷ (0xc2000022 ∷ 0x20010 ∷ [], "tell where this address leads: 00020010")
    ∷ (0xc2000030 ∷ [], "count the cores that are ON")
    ∷ (0xc400018f ∷ 1 ∷ 2 ∷ 3 ∷ 4 ∷ 5 ∷ 6 ∷ [], "finish with 01 02 03 04 05")
    ∷ (0xf2000000 ∷ 0x1c ∷ 1 ∷ 2 ∷ 3 ∷ 4 ∷ [], "finish with 1c 01 02 03")
    ∷ (0xc4000150 ∷ 5 ∷ 6 ∷ 7 ∷ 8 ∷ [], "call c4000150 with 05 06 07")
    ∷ (0 ∷ 1 ∷ [], "call 00000000 with 01 00 00")
    ∷ []
    )
unfolding asked slots slot valued register form is_form key_at row_at forms first named_from counted text_of upto extended ◌▹◌ hex_text value_text blanks row word_text words in_decimal in_hex sign_of args_of argument parts key_of identifier_of pick
each_call = refl

-- calls that were handed over, whatever their number
pub each_handed :
    Right true
    (
    (0xc2000010 ∷ 0x80038000 ∷ 4 ∷ [], "call c2000010 with 80038000 04 00")
    ∷ (0x84000002 ∷ [], "call 84000002 with 00 00 00")
    ∷ (0xc400018f ∷ 1 ∷ 2 ∷ 3 ∷ 4 ∷ 5 ∷ [], "call c400018f with 01 02 03")
    ∷ []
    )
unfolding asked slots slot valued register form is_form key_at row_at forms first named_from counted text_of upto extended ◌▹◌ hex_text value_text blanks row word_text words in_decimal in_hex sign_of args_of argument parts key_of identifier_of pick
each_handed = refl
