-- `put_blanks` meets its promise: so many blanks are a part of the row.
use Rattle.std.proofs.Common.{refl}
use Rattle.writing.specs.Put.{row, some_blanks}
use Rattle.writing.proofs.put_blanks.Goals as goal

pub returns : goal.returns
unfolding row
returns c = some_blanks _ _ _ _ _ refl _ _ _ c.min.ensures refl c.put_text.ensures
