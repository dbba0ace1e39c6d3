-- `slots_of` meets its promise, since the lower of the two is the one that the definition picks.
use Rattle.std.proofs.Common.{◌≡◌, ◌/◌, ◌∙◌, ℕ, arith, min, ltb, ltb-true, ltb-false}
use Rattle.rules.specs.Choice.{chosen}
use Rattle.fip_table.specs.Table.{slots}
use Rattle.fip_table.proofs.slots_of.Goals as goal

pub returns : goal.returns
unfolding slots
returns c =
    let k = c.args.bytes / 40 in
    let e : min k 65 ≡ slots c.args.bytes =
    chosen (λ (m : ℕ). min k 65 ≡ m) (ltb k 65) k 65 (λ y. let h = ltb-true k 65 y in omega arith) (λ y. let h = ltb-false k 65 y in omega arith) in
    (c.min.ensures ∙ e, omega arith)
