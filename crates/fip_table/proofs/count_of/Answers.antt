-- `count_of` meets its promise, since it asks the entries in their order, up to the last that is looked at.
use Rattle.std.proofs.Common.{◌≡◌, true, false, rules, tests, ap, ◌∙◌}
use Rattle.tools.specs.Search.{first}
use Rattle.std.proofs.lemmas.Iterator.{first_from_Range}
use Rattle.fip_table.specs.Meaning.{found_first}
use Rattle.fip_table.specs.Table.{blank, count}
use Rattle.fip_table.proofs.count_of.Goals as goal

pub returns : goal.returns
unfolding count
returns c =
    c.unwrap_or.ensures
    ∙ found_first (blank c.args.t.now) _ _
    (first_from_Range _ _ _ _ (λ i. blank c.args.t.now i ≡ true) (λ i. blank c.args.t.now i ≡ false) c.find.ensures.ran (λ x q k. search (rules, tests)) (λ x q k. (search rules, search (rules, tests))))
    ∙ ap (first (blank c.args.t.now) 0) c.slots_of-n.ensures.0
