-- Answers and their text, worked out from the definitions: those of the paper, and a core that went OFF.
use Rattle.std.specs.Prelude.{◌≡◌, refl, ◌++◌}
use Rattle.rules.specs.Choice.{pick}
use Rattle.hex_digits.specs.Hex.{sign_of, in_hex}
use Rattle.hex_digits.specs.Signs.{signs}
use Rattle.hex_write.specs.Digits.{four_text}
use Rattle.parsing.specs.declared.Status.TheVariants.{Accepted, Clash}
use Rattle.text.specs.Text.{head_text, status_text, call_text}

pub statuses : status_text Accepted ++ status_text Clash ≡ signs "a000\na075\n"
unfolding status_text in_hex sign_of pick
statuses = refl

pub calls :
    call_text 0 2 0x10001 1 2 3 ++ call_text 7 255 0x84000002 0 0 0xffffffffffffffff
    ≡ signs "a100020000000000010001000000000000000100000000000000020000000000000003\na107ff000000008400000200000000000000000000000000000000ffffffffffffffff\n"
unfolding call_text head_text four_text in_hex sign_of pick
calls = refl
