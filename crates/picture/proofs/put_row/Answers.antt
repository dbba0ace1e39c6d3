-- The row is put whole, where there is room for the longest line.
use borrow.Author.Rules.{rules}
use Rattle.picture.specs.Picture.{row_told}
use Rattle.picture.proofs.put_row.Goals as goal

pub returns : goal.returns
returns c = row_told _ _ _ _ _ _ _ _ (search rules) (search rules)
