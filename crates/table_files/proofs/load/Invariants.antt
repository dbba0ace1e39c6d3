-- Each pass lays one number more behind those before it.
use Rattle.std.proofs.Common.{◌≡◌}
use Rattle.tools.specs.Laid.{laid}
use Rattle.table_files.specs.Numbers.{numbers_of}
use Rattle.table_files.proofs.load.Given as goal

abbrev pub invariant-loop-i : goal.invariant-loop-i
invariant-loop-i l = l.numbers ≡ laid l.initial.numbers 0 (numbers_of l.bytes l.i)
