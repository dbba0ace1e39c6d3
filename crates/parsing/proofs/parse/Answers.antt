-- `parsing::parse` meets its promise: a call is a line of 132 digits, so its numbers are read; any other frame leaves those lent.
use borrow.Author.Rules.{rules}
use Rattle.parsing.specs.Frame.{parsed_numbers, parsed_other}
use Rattle.parsing.proofs.parse.Goals as goal

pub returns-then-is_call : goal.returns-then-is_call
returns-then-is_call c = search (parsed_numbers, rules)

pub returns : goal.returns
returns c = search (parsed_other, rules)
