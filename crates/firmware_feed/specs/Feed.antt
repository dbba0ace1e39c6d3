-- What a feed hands back to C.
use Rattle.std.specs.Prelude.{◌≡◌, List, [], ◌∷◌, ℕ}
use Rattle.frames.specs.Frames.{Machine}
use Rattle.inputs.specs.Fed.{Stand, stand}

-- the machine and what is printed, then how far the chunk was read and how much was printed
abbrev pub fed_into : Stand → (Machine × List ℕ) × List ℕ
fed_into d = ((d.machine, d.out), d.read ∷ d.done ∷ [])

-- ---- how the code meets it
pub feeds : (m : Machine) (out : List ℕ) (used put : ℕ) (d : Stand) → stand m used put out ≡ d → ((m, out), used ∷ put ∷ []) ≡ fed_into d
feeds m out used put d is = rw (← is)
