-- Every table is made as it is before the first frame, and the loop starts from there.
use mathlib.Core.Path.{refl}
use Rattle.inputs.specs.Monitor.{ran_left}
use Rattle.console.proofs.quiet.left.Goals as goal

pub returns-then-read : goal.returns-then-read
returns-then-read g c =
    ran_left _ _ _ c.read.ensures c.if-read.true
    (rw (c.fresh-setup.ensures, c.fresh_named-named.ensures, c.fresh-book.ensures, c.fresh_owners-owners.ensures, c.fresh-saved.ensures, c.fresh_powers-powers.ensures, c.fresh_turns-turns.ensures, c.fresh-lists.ensures) refl)
