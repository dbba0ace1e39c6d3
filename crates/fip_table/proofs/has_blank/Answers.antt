-- `has_blank` meets its promise, since it asks each entry.
use Rattle.std.proofs.Common.{rules, refl, ◌∙◌, arith}
use Rattle.std.proofs.lemmas.Iterator.{YieldsList-from_range}
use Rattle.std.proofs.lemmas.Iterator.Search.{any_from_yields_List}
use Rattle.tools.specs.Search.{any_list}
use Rattle.fip_table.specs.Table.{blank}
use Rattle.fip_table.proofs.has_blank.Goals as goal

pub returns : goal.returns
returns c =
    any_from_yields_List (blank c.args.t.now) _ _ _ c.any.ensures.ran (YieldsList-from_range 0 c.args.n c.args.n refl (omega arith)) (λ x b q k. search rules)
    ∙ any_list (blank c.args.t.now) 0 c.args.n
