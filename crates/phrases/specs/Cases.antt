-- Sentences and their text, worked out from the definitions: columns on either side of what stands before them, short and long numbers, and lines with short and long numbers of their own.
use Rattle.std.specs.Prelude.{◌≡◌, refl, ◌++◌}
use Rattle.rules.specs.Choice.{pick}
use Rattle.hex_digits.specs.Hex.{in_hex, sign_of}
use Rattle.hex_digits.specs.Signs.{signs}
use Rattle.writing.specs.Decimal.{in_decimal}
use Rattle.writing.specs.Put.{row, blanks}
use Rattle.words.specs.Words.{words, word_text}
use Rattle.words.specs.Words as w
use Rattle.phrases.specs.Sentence.{blank, ◌▹◌}
use Rattle.phrases.specs.Text.{indent, right_text, hex_text, value_text, gap_text, extended, upto, text_of, line_text}
use Rattle.phrases.specs.declared.Piece.TheVariants.{Word, Number, Right, Line, Hex, Value, Column}

pub lines :
    line_text (blank ▹ Right 7 ▹ Column 6 ▹ Word w.take ▹ Number 12 ▹ Word w.pages ▹ Word w.from ▹ Hex 0x80003000 ▹ Column 40 ▹ Word w.granted)
    ++ line_text (blank ▹ Right 1234567 ▹ Column 6 ▹ Hex 0xffffffffffff0000 ▹ Word 65535 ▹ Number 0 ▹ Column 1 ▹ Hex 0xffffffff ▹ Column 1 ▹ Hex 0x100000000 ▹ Column 1 ▹ Hex 0xffffffffffff ▹ Column 1 ▹ Hex 0x1000000000000)
    ≡ signs "   7  take 12 pages from 80003000       granted\n1234567 ffffffffffff00000 ffffffff 000100000000 ffffffffffff 0001000000000000\n"
unfolding line_text text_of upto extended ◌▹◌ right_text indent hex_text value_text gap_text blanks row word_text words in_decimal in_hex sign_of pick
lines = refl

-- a line below a million and one past it: what stands behind their numbers stands at the same place behind either
pub long_runs :
    line_text (blank ▹ Line 7 ▹ Column 7 ▹ Word w.realm ▹ Column 15 ▹ Word w.granted)
    ++ (line_text (blank ▹ Line 12345 ▹ Column 7 ▹ Word w.normal ▹ Column 15 ▹ Word w.granted)
    ++ (line_text (blank ▹ Line 999999 ▹ Column 7 ▹ Word w.realm ▹ Column 15 ▹ Word w.granted)
    ++ (line_text (blank ▹ Line 1000000 ▹ Column 7 ▹ Word w.normal ▹ Column 15 ▹ Word w.granted)
    ++ line_text (blank ▹ Line 1000001 ▹ Column 7 ▹ Word w.realm ▹ Column 15 ▹ Word w.granted))))
    ≡ signs "     7 Realm   granted\n 12345 Normal  granted\n999999 Realm   granted\n1000000 Normal  granted\n1000001 Realm   granted\n"
unfolding line_text text_of upto extended ◌▹◌ right_text indent hex_text value_text gap_text blanks row word_text words in_decimal in_hex sign_of pick
long_runs = refl

pub values :
    line_text (blank ▹ Value 0 ▹ Column 1 ▹ Value 255 ▹ Column 1 ▹ Value 256 ▹ Column 1 ▹ Value 0xffff ▹ Column 1 ▹ Value 0x10000 ▹ Column 1 ▹ Value 0x100000000)
    ≡ signs "00 ff 0100 ffff 00010000 000100000000\n"
unfolding line_text text_of upto extended ◌▹◌ right_text indent hex_text value_text gap_text blanks row word_text words in_decimal in_hex sign_of pick
values = refl
