-- `key_at` meets its promise, since the table is that of the definition.
use Rattle.asking.specs.Forms.{keys, forms, key_is}
use borrow.Author.Rules.{rules}
use Rattle.asking.proofs.key_at.Goals as goal

pub returns : goal.returns
unfolding keys forms
returns c = key_is _ _ (search rules)
