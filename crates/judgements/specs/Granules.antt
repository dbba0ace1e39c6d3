-- A granule call is the several-page call with a count of one: for Realm the two are judged alike. And the table of transfers in plain numbers.
use Rattle.std.specs.Prelude.{◌≡◌, refl, true, false, Some}
use Rattle.rules.specs.Choice.{pick}
use Rattle.rules.specs.Sizes.{realm}
use Rattle.judgements.specs.Names.{granule_to_realm, granule_to_normal, take_pages, give_pages}
use Rattle.judgements.specs.Judge.{HandlerSight, one_of, row_in, row_of, by_row, by_handler, transferring}
use Rattle.judgements.specs.declared.Args.{Args}

-- a reads one page, whatever its x2; b reads as many as its x2 says
module _ (s : HandlerSight) (a b : Args) (by : s.caller.world ≡ realm) (same : b.x1 ≡ a.x1) (one : b.x2 ≡ 1) where
  pub page_taken : by_handler s a granule_to_realm 2 ≡ by_handler s b take_pages 1
  unfolding row_in by_row transferring one_of pick
  page_taken = rw (by, same, one)

  pub page_given : by_handler s a granule_to_normal 2 ≡ by_handler s b give_pages 1
  unfolding row_in by_row transferring one_of pick
  page_given = rw (by, same, one)

-- The table in the paper's numbers: who may call besides Realm, whether the caller takes, and how many pages.
pub rows_listed : (a : Args) →
    (row_of a 2 0xC40001B0 ≡ Some (record { both = false; takes = true; count = 1 })) × (
    (row_of a 2 0xC40001B1 ≡ Some (record { both = false; takes = false; count = 1 })) × (
    (row_of a 1 0xC2000010 ≡ Some (record { both = true; takes = true; count = a.x2 })) ×
    (row_of a 1 0xC2000011 ≡ Some (record { both = true; takes = false; count = a.x2 }))
    )
    )
unfolding row_in pick
rows_listed a = (refl, (refl, (refl, refl)))
