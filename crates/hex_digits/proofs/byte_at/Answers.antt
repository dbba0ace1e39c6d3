-- `hex_digits::byte_at` meets its promise: each sign is asked for, and two digits are a byte.
use borrow.Author.Rules.{rules}
use Rattle.hex_digits.specs.Read.{bytes}
use Rattle.hex_digits.proofs.byte_at.Goals as goal

pub returns-then-high-eq16 : goal.returns-then-high-eq16
returns-then-high-eq16 c = search (bytes, rules)

pub returns-then-low-eq16 : goal.returns-then-low-eq16
returns-then-low-eq16 c = search (bytes, rules)

pub returns : goal.returns
returns c = search (bytes, rules)
