-- Lines of an input, worked out from the definitions.
use Rattle.std.specs.Prelude.{◌≡◌, refl, [], ◌∷◌, map}
use Rattle.rules.specs.Choice.{pick}
use Rattle.hex_digits.specs.Signs.{signs}
use Rattle.lines.specs.Lines.{lines_of, before}

-- a newline ends a line, the last may lack it, and no input has no line
pub input_lines :
    map lines_of (signs "" ∷ signs "\n" ∷ signs "21\n\n22" ∷ signs "21\n" ∷ [])
    ≡ [] ∷ ([] ∷ []) ∷ (signs "21" ∷ [] ∷ signs "22" ∷ []) ∷ (signs "21" ∷ []) ∷ []
unfolding lines_of before pick
input_lines = refl
