-- The signs of a text, as bytes.
use Rattle.std.specs.Prelude.{List, [], ◌∷◌, ℕ}
use Prim.Native.Char.{code}
use Prim.Native.String.{String}
use Prim.Native.String as string

abbrev pub signs : String → List ℕ
signs string.[] = []
signs (string.◌∷◌ c s) = code c ∷ signs s
