-- `has_stray` meets its promise, since it asks each image.
use Rattle.std.proofs.Common.{rules, refl, ◌∙◌, arith}
use Rattle.std.proofs.lemmas.Iterator.{YieldsList-from_range}
use Rattle.std.proofs.lemmas.Iterator.Search.{any_from_yields_List}
use Rattle.tools.specs.Search.{any_list}
use Rattle.fip_entries.specs.Entries.{outside}
use Rattle.fip_table.specs.Table.{strays}
use Rattle.fip_table.proofs.has_stray.Goals as goal

pub returns : goal.returns
unfolding strays
returns c =
    any_from_yields_List (outside c.args.t.now c.args.room) _ _ _ c.any.ensures.ran (YieldsList-from_range 0 c.args.n c.args.n refl (omega arith)) (λ x b q k. search rules)
    ∙ any_list (outside c.args.t.now c.args.room) 0 c.args.n
