-- The chain over the owners asks what `any` asks.
use Rattle.std.proofs.Common.{◌≡◌, ◌+◌, ◌-◌, ◌∙◌, arith, rules}
use Rattle.std.proofs.lemmas.Iterator.{YieldsList-from_range}
use Rattle.std.proofs.lemmas.Iterator.Search.{any_from_yields_List}
use Rattle.tools.specs.Search.{any_list}
use Rattle.ledger.specs.Ledger.{taken}
use Rattle.ledger.proofs.any_taken.Goals as goal

pub returns : goal.returns
returns c =
    let n : c.args.first + c.args.count - c.args.first ≡ c.args.count = omega arith in
    any_from_yields_List (taken c.args.t.now c.args.kind) _ _ _ c.any.ensures.ran (YieldsList-from_range _ _ c.args.count (search rules) n) (λ x b q k. search rules)
    ∙ any_list (taken c.args.t.now c.args.kind) c.args.first c.args.count
