-- `parsing::known_frame` meets its promise: each arm is a row of the table of first bytes.
use borrow.Author.Rules.{rules}
use Rattle.rules.specs.Choice.{pick}
use Rattle.parsing.specs.Frame.{kind, row, no_row}
use Rattle.parsing.proofs.known_frame.Goals as goal

pub returns-in-17 : goal.returns-in-17
unfolding kind pick
returns-in-17 c = search (row, rules)

pub returns-in-16 : goal.returns-in-16
unfolding kind pick
returns-in-16 c = search (row, rules)

pub returns-in-18 : goal.returns-in-18
unfolding kind pick
returns-in-18 c = search (row, rules)

pub returns-in-32 : goal.returns-in-32
unfolding kind pick
returns-in-32 c = search (row, rules)

pub returns-in-33 : goal.returns-in-33
unfolding kind pick
returns-in-33 c = search (row, rules)

pub returns-in_default : goal.returns-in_default
returns-in_default c = search (no_row, rules)
