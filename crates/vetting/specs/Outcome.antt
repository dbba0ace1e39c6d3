-- What a vetting came to, in the numbers of the refusals: 8A, 8B, 8C and 8D.
use Rattle.std.specs.Prelude.{ℕ, Result, Ok, Err, ⊤}
use Rattle.vetting.specs.declared.Fault.{Fault}
use Rattle.vetting.specs.declared.Fault.TheVariants.{TableOutside, Reserved, TableAgain, Otherwise}
use Rattle.vetting.specs.declared.Refusal.{Refusal}

-- accepted, or refused with the status and the virtual address where it arose
pub data Vetted : Type 0 where
  Accepted : Vetted
  Refused : ℕ → ℕ → Vetted

-- 8A, 8B, 8C and 8D
abbrev pub table_outside : ℕ
table_outside = 138

abbrev pub reserved_entry : ℕ
reserved_entry = 139

abbrev pub table_again : ℕ
table_again = 140

abbrev pub answered_otherwise : ℕ
answered_otherwise = 141

-- the status of each fault
abbrev pub status_of : Fault → ℕ
status_of TableOutside = table_outside
status_of Reserved = reserved_entry
status_of TableAgain = table_again
status_of Otherwise = answered_otherwise

abbrev pub came : Result ⊤ Refusal → Vetted
came (Ok _) = Accepted
came (Err r) = Refused (status_of r.fault) r.at
