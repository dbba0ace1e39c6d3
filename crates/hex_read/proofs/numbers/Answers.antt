-- `hex_read::numbers` meets its promise: too few signs are no digits, the largest mark tells whether all are, and then they are joined.
use Rattle.std.proofs.Common.{rules}
use Rattle.hex_read.specs.Many.{digits_small, eights}
use Rattle.hex_read.proofs.numbers.Goals as goal

pub returns-then-line-at : goal.returns-then-line-at
returns-then-line-at c = search (eights, rules)

pub returns-then-m-gt15 : goal.returns-then-m-gt15
returns-then-m-gt15 c = let d = rw c.from-at.ensures at c.marks_of-m.ensures in search (eights, rules)

pub join-requires : goal.join-requires
join-requires c = search (digits_small, rules)

pub returns : goal.returns
returns c = let d = rw c.from-at.ensures at c.marks_of-m.ensures in search (eights, rules)
