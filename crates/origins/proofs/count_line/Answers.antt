-- The number grows, where there is room for the next.
use borrow.Author.Rules.{rules}
use Rattle.origins.specs.Lines.{counts}
use Rattle.origins.proofs.count_line.Goals as goal

pub returns : goal.returns
returns c = counts _ _ (search rules) (search rules)
