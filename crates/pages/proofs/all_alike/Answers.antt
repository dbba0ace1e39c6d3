-- The chain asks of each page of the run what the definition asks.
use Rattle.std.proofs.Common.{◌≡◌, ◌+◌, ◌-◌, ◌∙◌, ℕ, arith, rules, eqb}
use Rattle.std.proofs.lemmas.Iterator.{YieldsList-from_slice}
use Rattle.std.proofs.lemmas.Iterator.Search.{all_from_yields_List}
use Rattle.pages.specs.Run.{run_alike}
use Rattle.pages.proofs.all_alike.Goals as goal

pub returns : goal.returns
returns c =
    let n : c.args.first + c.args.count - c.args.first ≡ c.args.count = omega arith in
    all_from_yields_List (λ (x : ℕ). eqb x c.args.mark) _ _ _ c.all.ensures.ran (YieldsList-from_slice _ (rw (← n) (search rules))) (λ x b q k. search rules)
    ∙ run_alike c.args.t.now c.args.first c.args.count c.args.mark (search rules) (search rules)
