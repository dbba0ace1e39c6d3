-- `hex_digits::swapped` meets its promise: its sum is that of `swap`, and fits 64 bits.
use borrow.Author.Rules.{rules}
use Rattle.hex_digits.specs.Swap.{swap}
use Rattle.hex_digits.proofs.swapped.Goals as goal

pub returns : goal.returns
unfolding swap
returns c = search rules
