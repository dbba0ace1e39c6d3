-- `byte_for` meets its promise, since the owner with the mark is the byte, and is small.
use Rattle.conversions.specs.Laws.{byte_by, owner_small}
use borrow.Author.Rules.{rules}
use Rattle.conversions.proofs.bytes.byte_for.Goals as goal

pub overflow_cast-result : goal.overflow_cast-result
overflow_cast-result c = record { fits = search (owner_small, rules) }

pub returns : goal.returns
returns c = search byte_by
