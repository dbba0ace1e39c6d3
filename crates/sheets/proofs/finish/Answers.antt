-- Each way out is a case of the definition.
use Rattle.std.proofs.Common.{rules, refl}
use Rattle.sheets.specs.Sheet.{finish_over, finish_all}
use Rattle.sheets.proofs.finish.Goals as goal

pub returns-then-ends-gt-MOST : goal.returns-then-ends-gt-MOST
returns-then-ends-gt-MOST c = finish_over _ _ _ _ _ _ _ (search rules) (search rules) c.put_digits-a.ensures c.put_end.ensures

pub returns : goal.returns
returns c = finish_all _ _ _ (search rules) _ _ _ (search rules) refl c.put_text.ensures
