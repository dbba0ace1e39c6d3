-- `has_stray_mark` meets its promise, since it tries each mark of the range.
use Rattle.std.proofs.Common.{rules, tests, refl, ◌∙◌, ◌*◌}
use Rattle.std.proofs.lemmas.Iterator.{YieldsList-from_range}
use Rattle.std.proofs.lemmas.Iterator.Search.{any_from_yields_List}
use Rattle.conversions.specs.Laws.{any_listed}
use Rattle.conversions.specs.Conversions.{numbers_for, stray_mark, stray_marks}
use native.Mathlib.Omega.{arith}
use Rattle.conversions.proofs.numbers.has_stray_mark.Goals as goal

pub returns : goal.returns
unfolding stray_marks
returns c =
    any_from_yields_List (stray_mark c.args.n c.args.numbers.now) _ _ _ c.any.ensures.ran
    (YieldsList-from_range 0 (16 * c.numbers_for.result) (16 * numbers_for c.args.n) refl (omega (arith, c.numbers_for.ensures)))
    (λ x b q k. search (rules, tests))
    ∙ any_listed _ 0 (16 * numbers_for c.args.n)
