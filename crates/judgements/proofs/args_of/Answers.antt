-- A 64-bit call reads the numbers as they stand; else each argument is what the promise of `argument` says of its number, as `args_of` lists them.
use Rattle.judgements.specs.Judge.{args_of}
use Rattle.judgements.specs.Read.{args_wide}
use Rattle.judgements.proofs.args_of.Goals as goal

pub returns-then-p-eq1 : goal.returns-then-p-eq1
returns-then-p-eq1 c = search args_wide

pub returns : goal.returns
unfolding args_of
returns c = rw (c.argument-4.ensures, c.argument-3.ensures, c.argument-2.ensures, c.argument.ensures)
