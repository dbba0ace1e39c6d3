-- `number` meets its promise, since the place that it takes is that of the first sign which is no digit.
use Rattle.std.proofs.Common.{rules, tests, ap, ◌∙◌, take, drop, ℕ, ◌+◌}
use Rattle.std.specs.Prelude.{slice_get}
use Rattle.std.proofs.lemmas.Iterator.{YieldsList-from_slice}
use Rattle.std.proofs.lemmas.Iterator.Consumers.{fold_from_yields_List}
use Rattle.std.proofs.lemmas.Iterator.Search.{position_from_yields_List}
use Rattle.signs.specs.Numbers.{is_no_digit, value}
use Rattle.signs.specs.Laws.{place_is, longer, value_is}
use Rattle.signs.proofs.Signs.number.Goals as goal

pub returns : goal.returns
returns c =
    let e =
    place_is is_no_digit c.args.self.now.left.now c.position.result c.unwrap_or-at.result
    (position_from_yields_List _ _ _ c.position.result c.position.ensures.ran (YieldsList-from_slice c.args.self.now.left.now cc) (λ x b q k. search (rules, tests)))
    c.unwrap_or-at.ensures in
    record {
      value =
          fold_from_yields_List _ longer 0 c.fold-number.result c.fold-number.ensures.ran (YieldsList-from_slice c.through_place-end.result.0.now cc) (λ a x b q k. search (rules, tests))
          ∙ value_is c.through_place-end.result.0.now
          ∙ ap value (c.through_place-end.ensures.taken ∙ ap (λ (at : ℕ). take at c.args.self.now.left.now) e);
      end = c.through_place-end.ensures.end ∙ ap (λ (at : ℕ). slice_get c.args.self.now.left.now at) e;
      left = c.through_place-end.ensures.left ∙ ap (λ (at : ℕ). drop (at + 1) c.args.self.now.left.now) e;
    }
