-- `has_stray_byte` meets its promise, since it tries each byte of the range.
use Rattle.std.proofs.Common.{rules, tests, refl, ◌∙◌}
use Rattle.std.proofs.lemmas.Iterator.{YieldsList-from_range}
use Rattle.std.proofs.lemmas.Iterator.Search.{any_from_yields_List}
use Rattle.conversions.specs.Laws.{any_listed, byte_judged}
use Rattle.conversions.specs.Conversions.{stray_byte, stray_bytes}
use native.Mathlib.Omega.{arith}
use Rattle.conversions.proofs.bytes.has_stray_byte.Goals as goal

pub returns : goal.returns
unfolding stray_bytes
returns c =
    any_from_yields_List (stray_byte c.args.bytes.now) _ _ _ c.any.ensures.ran (YieldsList-from_range 0 c.from.result c.args.n refl (omega (arith, c.from.ensures)))
    (λ x b q k. search (byte_judged, rules, tests))
    ∙ any_listed _ 0 c.args.n
