-- `put_word` meets its promise, since a word is the part of the text from its begin to the next.
use Rattle.words.specs.Joined.{parts}
use borrow.Author.Rules.{rules}
use Rattle.words.proofs.put_word.Goals as goal

pub put_part-requires : goal.put_part-requires
put_part-requires c = search (parts, rules)

pub returns-then-k-lt-WORDS : goal.returns-then-k-lt-WORDS
returns-then-k-lt-WORDS c = search (parts, rules)

pub returns : goal.returns
returns c = search (parts, rules)
