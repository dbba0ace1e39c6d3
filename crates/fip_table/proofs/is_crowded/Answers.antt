-- `is_crowded` meets its promise, since it asks each image.
use Rattle.std.proofs.Common.{rules, refl, ◌∙◌, arith}
use Rattle.std.proofs.lemmas.Iterator.{YieldsList-from_range}
use Rattle.std.proofs.lemmas.Iterator.Search.{any_from_yields_List}
use Rattle.tools.specs.Search.{any_list}
use Rattle.fip_table.specs.Table.{covers, crowded}
use Rattle.fip_table.proofs.is_crowded.Goals as goal

pub returns : goal.returns
unfolding crowded
returns c =
    any_from_yields_List (covers c.args.t.now c.args.n) _ _ _ c.any.ensures.ran (YieldsList-from_range 0 c.args.n c.args.n refl (omega arith)) (λ x b q k. search rules)
    ∙ any_list (covers c.args.t.now c.args.n) 0 c.args.n
