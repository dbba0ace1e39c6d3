-- Each way out is a case of the definition.
use borrow.Author.Rules.{rules}
use Rattle.spans.specs.Laws.{lines_named}
use Rattle.spans.proofs.named.Goals as goal

pub returns-then-byte_of-eq0 : goal.returns-then-byte_of-eq0
returns-then-byte_of-eq0 c = search (lines_named, rules)

pub returns-then-is_done : goal.returns-then-is_done
returns-then-is_done c = search (lines_named, rules)

pub returns-else-byte_of-eq0 : goal.returns-else-byte_of-eq0
returns-else-byte_of-eq0 c = search (lines_named, rules)

pub returns-else-is_done : goal.returns-else-is_done
returns-else-is_done c = search (lines_named, rules)
