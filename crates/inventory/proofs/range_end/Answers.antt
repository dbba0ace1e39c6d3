-- The search is that of the definition.
use borrow.Author.Rules.{rules}
use Rattle.std.proofs.Common.{◌≡◌, true, false, tests}
use Rattle.std.proofs.lemmas.Iterator.{first_from_Range}
use Rattle.inventory.specs.Inventory.{unlike, end_starts, found}
use Rattle.inventory.proofs.range_end.Goals as goal

pub returns : goal.returns
returns c =
    let p = unlike c.args.owners.now c.args.origins.now c.owner_of-owner.result c.line_of-line.result in
    end_starts _ _ _ _ _ _ _ (search rules) (search rules)
    (found p _ _ _
    (first_from_Range _ _ _ _ (λ i. p i ≡ true) (λ i. p i ≡ false) c.find.ensures.ran (λ x q k. search (rules, tests)) (λ x q k. (search rules, search (rules, tests))))
    _ c.max.result (search rules) (search rules))
