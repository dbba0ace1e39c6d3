-- `seek` meets its promise, since it asks the entries in their order.
use Rattle.std.proofs.Common.{◌≡◌, true, false, rules, tests, ◌∙◌}
use Rattle.std.proofs.lemmas.Iterator.{first_from_Range}
use Rattle.fip_table.specs.Meaning.{found_first}
use Rattle.fip_table.specs.Table.{holds, sought}
use Rattle.fip_table.proofs.seek.Goals as goal

pub returns : goal.returns
unfolding sought holds
returns c =
    c.unwrap_or.ensures
    ∙ found_first (holds c.args.t.now c.args.id.now) _ _
    (first_from_Range _ _ _ _ (λ i. holds c.args.t.now c.args.id.now i ≡ true) (λ i. holds c.args.t.now c.args.id.now i ≡ false) c.find.ensures.ran (λ x q k. search (rules, tests)) (λ x q k. (search rules, search (rules, tests))))
