-- `through` meets its promise, since the place that it takes is that of the first such sign.
use Rattle.std.proofs.Common.{rules, tests, ap, ◌∙◌, ◌==◌, take, drop, ℕ, ◌+◌}
use Rattle.std.proofs.lemmas.Iterator.{YieldsList-from_slice}
use Rattle.std.proofs.lemmas.Iterator.Search.{position_from_yields_List}
use Rattle.signs.specs.Laws.{place_is}
use Rattle.signs.proofs.Signs.through.Goals as goal

pub returns : goal.returns
returns c =
    let e =
    place_is (λ sign. sign == c.args.end) c.args.self.now.left.now c.position.result c.unwrap_or-at.result
    (position_from_yields_List _ _ _ c.position.result c.position.ensures.ran (YieldsList-from_slice c.args.self.now.left.now cc) (λ x b q k. search (rules, tests)))
    c.unwrap_or-at.ensures in
    record {
      taken = c.through_place.ensures.taken ∙ ap (λ (at : ℕ). take at c.args.self.now.left.now) e;
      left = c.through_place.ensures.left ∙ ap (λ (at : ℕ). drop (at + 1) c.args.self.now.left.now) e;
    }
