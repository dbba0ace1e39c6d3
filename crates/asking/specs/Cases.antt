-- What calls ask, worked out from the definitions: a call for each way of telling an argument, and one that the table does not have.
use Rattle.std.specs.Prelude.{◌≡◌, refl, false, List, [], ◌∷◌, ◌++◌, ℕ}
use Rattle.rules.specs.Choice.{pick}
use Rattle.tools.specs.Search.{first}
use Rattle.identifiers.specs.Identifier.{parts, argument, key_of, identifier_of}
use Rattle.judgements.specs.Judge.{args_of}
use Rattle.hex_digits.specs.Hex.{in_hex, sign_of}
use Rattle.hex_digits.specs.Signs.{signs}
use Rattle.writing.specs.Decimal.{in_decimal}
use Rattle.writing.specs.Put.{row, blanks}
use Rattle.words.specs.Words.{words, word_text}
use Rattle.phrases.specs.Sentence.{blank, ◌▹◌}
use Rattle.phrases.specs.Text.{hex_text, value_text, extended, upto, text_of, line_text}
use Rattle.asking.specs.Names.{named_from, counted}
use Rattle.asking.specs.Forms.{forms, key_at, row_at, is_form, form, register, valued, slot, slots, asked}

abbrev told : List ℕ → List ℕ
told xs = line_text (asked blank false xs)

pub calls :
    told (0x84000000 ∷ [])
    ++ (told (0xc2000010 ∷ 0x80003000 ∷ 1 ∷ [])
    ++ (told (0xc2000020 ∷ 0x80003000 ∷ 0x1000 ∷ 0x2000 ∷ 1 ∷ [])
    ++ (told (0x84000003 ∷ 0xff00000001 ∷ 0x80000004 ∷ 7 ∷ [])
    ++ (told (0xc2010020 ∷ 0xfffffffff000 ∷ 0 ∷ 5 ∷ 9 ∷ []) ++ told (0x32000001 ∷ 1 ∷ 2 ∷ 3 ∷ [])))))
    ≡ signs "tell the version of core power\ntake 1 page from 80003000\nmap 80003000 at 00001000, 8192 bytes, writable\nstart core 1 at 80000004 with 07\nmap fffffffff000 at 00000000, 5 bytes, attributes 9\ncall 32000001 with 01 02 03\n"
unfolding asked slots slot valued register form is_form key_at row_at forms first named_from counted line_text text_of upto extended ◌▹◌ hex_text value_text blanks row word_text words in_decimal in_hex sign_of args_of argument parts key_of identifier_of pick
calls = refl
