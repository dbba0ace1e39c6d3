-- The number of each fault, as it is told.
use Rattle.std.specs.Prelude.{◌≡◌, refl, [], ◌∷◌}
use mathlib.Core.List.{map}
use Rattle.fip_entries.specs.declared.Fault.TheVariants.{WrongLength, WrongHeader, WrongTable, SameIdentifiers, WrongPlace, NoImage, NoRoom}
use Rattle.fip_entries.specs.Faults.{number_of}

pub numbered :
    map number_of (WrongLength ∷ WrongHeader ∷ WrongTable ∷ SameIdentifiers ∷ WrongPlace ∷ NoImage ∷ NoRoom ∷ [])
    ≡ 0x81 ∷ 0x82 ∷ 0x83 ∷ 0x84 ∷ 0x85 ∷ 0x86 ∷ 0x87 ∷ []
numbered = refl
