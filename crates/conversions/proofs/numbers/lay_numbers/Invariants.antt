-- `lay_numbers` meets its promise, since each pass writes one number, and those that are left, laid behind it, make the same of the space.
use Rattle.tools.specs.Laid.{laid}
use Rattle.conversions.specs.Laws.{Laying}
use Rattle.conversions.specs.Conversions.{numbers_for, number_for, listed}
use Rattle.conversions.proofs.numbers.lay_numbers.Given as goal

abbrev pub invariant-loop-i : goal.invariant-loop-i
invariant-loop-i l = Laying l.initial.numbers (laid l.initial.numbers 0 (listed (number_for l.n l.bytes) 0 (numbers_for l.n))) l.numbers (number_for l.n l.bytes) l.i (numbers_for l.n)
