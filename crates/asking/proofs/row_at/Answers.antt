-- `row_at` meets its promise, since the table is that of the definition.
use Rattle.asking.specs.Forms.{rows, forms, row_is}
use borrow.Author.Rules.{rules}
use Rattle.asking.proofs.row_at.Goals as goal

pub returns : goal.returns
unfolding rows forms
returns c = row_is _ _ (search rules)
