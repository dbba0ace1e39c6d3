-- `is_same` meets its promise, since it compares each byte of the identifiers.
use Rattle.std.proofs.Common.{rules, tests, refl}
use Rattle.std.proofs.lemmas.Iterator.{YieldsList-from_range}
use Rattle.std.proofs.lemmas.Iterator.Search.{all_from_yields_List}
use Rattle.fip_entries.specs.Entries.{entry, agrees, agrees_all}
use Rattle.fip_entries.proofs.is_same.Goals as goal

pub returns : goal.returns
unfolding agrees
returns c =
    agrees_all _ _ _ _ _
    (all_from_yields_List (agrees c.args.t.now (entry c.args.k) c.args.s.now (entry c.args.i)) _ _ _ c.all.ensures.ran (YieldsList-from_range 0 16 16 refl refl)
    (λ x b q k. search (rules, tests)))
