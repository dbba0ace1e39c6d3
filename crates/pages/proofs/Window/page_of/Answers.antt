-- `page_of` meets its promise, since the addresses outside are those below the window's start and those from its end on.
use mathlib.Core.Path.{sym}
use borrow.Author.Rules.{rules}
use Rattle.pages.specs.Window.{page_at, page_below, page_past}
use Rattle.pages.proofs.Window.page_of.Goals as goal

pub returns-then-address-self : goal.returns-then-address-self
returns-then-address-self c = sym (page_below _ _ (search rules))

pub returns-then-self-page : goal.returns-then-self-page
returns-then-self-page c = sym (page_past _ _ (search rules))

pub returns : goal.returns
returns c = sym (page_at _ _ _ (record { low = search rules; high = search rules; inside = search rules }))
