-- `put_decimal` meets its promise, since the fewest digits that hold a number are those of its text.
use Rattle.std.proofs.Common.{refl, rules}
use Rattle.writing.specs.Put.{decimal_put}
use Rattle.writing.proofs.put_decimal.Goals as goal

pub returns : goal.returns
returns c = let d = c.decimal-n.ensures in decimal_put _ _ _ _ _ _ _ _ (search rules) d.len d.digits refl c.put_text.ensures
