-- `is_repeated` meets its promise, since it asks each entry before this one.
use Rattle.std.proofs.Common.{rules, refl, ◌∙◌, arith}
use Rattle.std.proofs.lemmas.Iterator.{YieldsList-from_range}
use Rattle.std.proofs.lemmas.Iterator.Search.{any_from_yields_List}
use Rattle.tools.specs.Search.{any_list}
use Rattle.fip_table.specs.Table.{twins, repeated}
use Rattle.fip_table.proofs.is_repeated.Goals as goal

pub returns : goal.returns
unfolding repeated twins
returns c =
    any_from_yields_List (twins c.args.t.now c.args.i) _ _ _ c.any.ensures.ran (YieldsList-from_range 0 c.args.i c.args.i refl (omega arith)) (λ x b q k. search rules)
    ∙ any_list (twins c.args.t.now c.args.i) 0 c.args.i
