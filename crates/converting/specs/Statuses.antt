-- The statuses of both conversions.
use Rattle.std.specs.Prelude.{ℕ, Result, Ok, Err}
use Rattle.converting.specs.declared.Fault.{Fault}
use Rattle.converting.specs.declared.Fault.TheVariants.{Cramped, Stray}

-- the paper's number of the first rule that is broken
abbrev pub number_of : Fault → ℕ
number_of Cramped = 0x88
number_of Stray = 0x89

-- 0 where it was converted
abbrev pub status : Result (Unit {0}) Fault → ℕ
status (Ok done) = 0
status (Err fault) = number_of fault
