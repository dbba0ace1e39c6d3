-- What is printed for an input, whatever its bytes: the answers to its lines, in order; and the machine that it leaves.
use Rattle.std.specs.Prelude.{◌≡◌, refl, List, [], ◌∷◌, ◌++◌, ℕ}
use Rattle.std.proofs.Common.{sym, ap, append_assoc}
use Rattle.lines.specs.Meant.{meant_none}
use Rattle.lines.specs.Input.{reading, readings}
use Rattle.parsing.specs.declared.Frame.{Frame}
use Rattle.frames.specs.Frames.{Machine, framed}
use Rattle.answering.specs.Answer.{text_of}
use Rattle.inputs.specs.Folds.{folded, left}

-- the answers to frames, one after the other, each by the machine that the ones before it left
unfoldable pub answers : Machine → List (Frame × List ℕ) → List ℕ
answers m [] = []
answers m (r ∷ rest) = text_of (framed m r.0 r.1).1 ++ answers (framed m r.0 r.1).0 rest

-- what a machine prints for an input
unfoldable pub printed : Machine → List ℕ → List ℕ
printed m input = answers m (readings input)

-- the machine after frames
unfoldable pub reached : Machine → List (Frame × List ℕ) → Machine
reached m [] = m
reached m (r ∷ rest) = reached (framed m r.0 r.1).0 rest

-- what a line does to the machine
abbrev pub turned : Machine → Frame × List ℕ → Machine
turned m r = (framed m r.0 r.1).0

-- the machine that an input leaves
abbrev pub left_by : Machine → List ℕ → Machine
left_by m input = left turned reading m input

reached_folded : (m : Machine) (rs : List (Frame × List ℕ)) → folded turned m rs ≡ reached m rs
unfolding folded reached
reached_folded m [] = refl
reached_folded m (r ∷ rs) = reached_folded (turned m r) rs

pub left_reached : (m : Machine) (input : List ℕ) → left_by m input ≡ reached m (readings input)
unfolding left
left_reached m input = reached_folded m (readings input)

-- no input
pub printed_none : (m : Machine) → printed m [] ≡ []
unfolding printed answers
printed_none m = ap (answers m) (meant_none reading)

-- frames in two parts
pub reached_two : (m : Machine) (rs qs : List (Frame × List ℕ)) → reached m (rs ++ qs) ≡ reached (reached m rs) qs
unfolding reached
reached_two m [] qs = refl
reached_two m (r ∷ rs) qs = reached_two (framed m r.0 r.1).0 rs qs

pub answers_two : (m : Machine) (rs qs : List (Frame × List ℕ)) → answers m (rs ++ qs) ≡ answers m rs ++ answers (reached m rs) qs
unfolding answers reached
answers_two m [] qs = refl
answers_two m (r ∷ rs) qs =
    rw (answers_two (framed m r.0 r.1).0 rs qs)
    (sym (append_assoc (text_of (framed m r.0 r.1).1) (answers (framed m r.0 r.1).0 rs) (answers (reached (framed m r.0 r.1).0 rs) qs)))

-- inputs that are read alike
pub printed_alike : (m : Machine) (a b : List ℕ) → readings a ≡ readings b → printed m a ≡ printed m b
unfolding printed
printed_alike m a b e = ap (answers m) e
