use borrow.Author.Rules.{rules}
use Rattle.descriptors.specs.Meaning.{meanings}
use Rattle.descriptors.proofs.is_proper.Goals as goal

pub returns-then-below-le1 : goal.returns-then-below-le1
returns-then-below-le1 c = search (rules, meanings)
