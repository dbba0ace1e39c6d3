-- `hex_write::bytes_of` meets its promise: four numbers are laid at their places, each with its bytes swapped.
use borrow.Author.Rules.{rules}
use Rattle.hex_write.specs.Bytes.{four_laid}
use Rattle.hex_write.proofs.bytes_of.Goals as goal

pub returns : goal.returns
returns c = search (four_laid, rules)
