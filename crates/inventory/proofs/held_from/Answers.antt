-- The search is that of the definition.
use borrow.Author.Rules.{rules}
use Rattle.std.proofs.Common.{◌≡◌, true, false, tests}
use Rattle.std.proofs.lemmas.Iterator.{first_from_Range}
use Rattle.inventory.specs.Inventory.{is_held, held_from, found}
use Rattle.inventory.proofs.held_from.Goals as goal

pub returns : goal.returns
unfolding held_from
returns c =
    let l = c.args.lists.now in
    found (is_held l) _ _ _
    (first_from_Range _ _ _ _ (λ i. is_held l i ≡ true) (λ i. is_held l i ≡ false) c.find.ensures.ran (λ x q k. search (rules, tests)) (λ x q k. (search rules, search (rules, tests))))
    _ c.max.result (search rules) (search rules)
