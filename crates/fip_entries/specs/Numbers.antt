-- Numbers in bytes, the lowest byte first. Past the end of the bytes every byte counts as 0.
use Rattle.std.specs.Prelude.{List, ℕ, ◌+◌, ◌*◌, get_or}

unfoldable pub two : List ℕ → ℕ → ℕ
two s at = get_or s at 0 + 256 * get_or s (at + 1) 0

unfoldable pub four : List ℕ → ℕ → ℕ
four s at = two s at + 0x10000 * two s (at + 2)

unfoldable pub eight : List ℕ → ℕ → ℕ
eight s at = four s at + 0x100000000 * four s (at + 4)
