-- What an answer writes for its caller.
use Rattle.std.specs.Prelude.{Bool, true, false, List, [], ◌∷◌, ℕ, ◌-◌, ◌^◌, get_or}
use Rattle.identifiers.specs.Identifier.{answer_bits}
use Rattle.identifiers.specs.declared.Parts.{Parts}
use Rattle.rules.specs.Reasons.{minus}
use Rattle.registers.specs.Registers.{saving}
use Rattle.judgements.specs.Judge.{called_by}
use Rattle.judgements.specs.declared.Answer.{Answer}
use Rattle.judgements.specs.declared.Answer.TheVariants.{Version, PowerVersion, Done, On, Off, Pending, Owns, Leads, Count, Silent, No}

-- -n, as a call of these parts has it written, in as many bits as its answers take
unfoldable pub negative : Parts → ℕ → ℕ
negative p n = 2 ^ answer_bits p - n

-- 1 or 0
abbrev pub bit : Bool → ℕ
bit true = 1
bit false = 0

-- the results that an answer writes, from x0 on; what is not in the list is not written
abbrev pub written : Parts → Answer → List ℕ
written p Version = 0x10003 ∷ []
written p PowerVersion = 0x10001 ∷ []
written p Done = 0 ∷ []
written p On = 0 ∷ []
written p Off = 1 ∷ []
written p Pending = 2 ∷ []
written p (Owns is) = bit is ∷ []
written p (Leads phys attr) = 0 ∷ phys ∷ attr ∷ []
written p (Count n) = n ∷ []
written p Silent = []
written p (No r) = negative p (minus r) ∷ []

-- what it writes in x0; 0 where it writes nothing
abbrev pub told : Parts → Answer → ℕ
told p a = get_or (written p a) 0 0

-- the frame's eight numbers, and over them the answer's results, of a call of these parts
abbrev pub answered_by : Parts → List ℕ → ℕ → ℕ → List ℕ → Answer → List ℕ
answered_by p r core caller xs a = saving (saving r core caller xs) core caller (written p a)

abbrev pub answered_in : List ℕ → ℕ → ℕ → List ℕ → Answer → List ℕ
answered_in r core caller xs a = answered_by (called_by xs) r core caller xs a
