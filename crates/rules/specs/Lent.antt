-- A table that is lent, as a promise sees it: what it holds at entry and at exit. Promises over several speak of a record of them,
-- before and after.
use Rattle.std.specs.Prelude.{List, ℕ}
use Rattle.std.specs.Borrow.{Bor, MutBor}
use denote.Triple.Both.{Both}

abbrev pub Lent : Type 0
Lent = Both (MutBor (List ℕ)) (MutBor (List ℕ))

-- one that is lent to be read alone
abbrev pub LentToRead : Type 0
LentToRead = Both (Bor (List ℕ)) (Bor (List ℕ))
