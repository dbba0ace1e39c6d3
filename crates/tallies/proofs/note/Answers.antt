-- Each way out is a case of the definition.
use borrow.Author.Rules.{rules}
use Rattle.tallies.specs.Tally.{notes}
use Rattle.tallies.proofs.note.Goals as goal
use Rattle.tallies.proofs.note.Goals.{then-world-ge-WORLDS-via-then-world-ge-WORLDS, then-world-ge-WORLDS-via-else-world-ge-WORLDS+then-row-ge-ROWS}

pub returns-then-all-ge-MOST : goal.returns-then-all-ge-MOST
returns-then-all-ge-MOST c = search (notes, rules)

pub returns-then-world-ge-WORLDS : goal.returns-then-world-ge-WORLDS
returns-then-world-ge-WORLDS c =
    elim c.then-world-ge-WORLDS.branch [
      | then-world-ge-WORLDS-via-then-world-ge-WORLDS w ↦ search (notes, rules)
      | then-world-ge-WORLDS-via-else-world-ge-WORLDS+then-row-ge-ROWS w ↦ search (notes, rules)
    ]

pub returns : goal.returns
returns c = search (notes, rules)
