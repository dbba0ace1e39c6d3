-- `name_run` meets its promise, since each early return breaks the range, and a run without names is named and given whole.
use mathlib.Core.Path.{sym}
use native.Mathlib.Omega.{arith}
use borrow.Author.Rules.{rules}
use Rattle.pages.specs.Named.{marked_is, not_taken, is_taken}
use Rattle.pages.specs.Naming.{InRange, range_not, naming_out, names_all, names_none}
use Rattle.pages.proofs.name_run.Goals as goal

pub returns-then-count-eq0 : goal.returns-then-count-eq0
returns-then-count-eq0 c = sym (naming_out _ _ _ _ _ _ (range_not _ _ _ _ (λ (r : InRange _ _ _ _). omega arith)))

pub returns-then-pages-gt-MOST_PAGES : goal.returns-then-pages-gt-MOST_PAGES
returns-then-pages-gt-MOST_PAGES c = sym (naming_out _ _ _ _ _ _ (range_not _ _ _ _ (λ (r : InRange _ _ _ _). omega arith)))

pub returns-then-pages-first : goal.returns-then-pages-first
returns-then-pages-first c = sym (naming_out _ _ _ _ _ _ (range_not _ _ _ _ (λ (r : InRange _ _ _ _). omega arith)))

pub returns-then-pages-first-2 : goal.returns-then-pages-first-2
returns-then-pages-first-2 c = sym (naming_out _ _ _ _ _ _ (range_not _ _ _ _ (λ (r : InRange _ _ _ _). omega arith)))

pub returns-then-to-gt-REALM : goal.returns-then-to-gt-REALM
returns-then-to-gt-REALM c = sym (naming_out _ _ _ _ _ _ (range_not _ _ _ _ (λ (r : InRange _ _ _ _). omega arith)))

pub returns : goal.returns
returns c = names_all _ _ _ _ _ _ (record { some = search rules; most = search rules; inside = search rules; world = search rules }) _ _
    (not_taken _ _ _ _ c.all_alike.ensures (search rules)) (search rules) (marked_is _ _ _ _ (search rules))

pub returns-then-not-all_alike : goal.returns-then-not-all_alike
returns-then-not-all_alike c = names_none _ _ _ _ _ _ (record { some = search rules; most = search rules; inside = search rules; world = search rules })
    (is_taken _ _ _ _ c.all_alike.ensures (search rules) (search rules))
