-- `hex_write::put_numbers` meets its promise: the digits of the bytes of four numbers, the highest first, are the digits of the numbers.
use borrow.Author.Rules.{rules}
use Rattle.hex_write.specs.Digits.{four_fit, four_not}
use Rattle.hex_write.proofs.put_numbers.Goals as goal

pub returns-then-out-lt64 : goal.returns-then-out-lt64
returns-then-out-lt64 c = four_not _ _ _ _ _ _ (search rules)

pub returns : goal.returns
returns c = four_fit _ _ _ _ _ _ _ _ (search rules) (search rules) (search rules) (search rules) (search rules) c.bytes_of-bs.ensures c.put_pairs.ensures
