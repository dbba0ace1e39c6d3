-- What a read calls for: which bytes are taken, what waits then, and what is kept; of the monitor also what is to be written.
use Rattle.std.specs.Prelude.{◌&&◌, List, [], ◌∷◌, ◌++◌, ℕ, eqb, ltb, length, take}
use Rattle.rules.specs.Choice.{pick}
use Rattle.lines.specs.Parts.{complete, unfinished}
use Rattle.frames.specs.Frames.{Machine}
use Rattle.inputs.specs.Folds.{left}
use Rattle.inputs.specs.Run.{printed, left_by}

-- ---- the bytes that are taken
-- a last line that lacks its newline gets one
unfoldable pub ended : List ℕ → List ℕ
ended [] = []
ended (b ∷ l) = (b ∷ l) ++ 10 ∷ []

-- the first n bytes; and where nothing was read behind the `kept` that waited, though there was room, the input has ended
unfoldable pub heard : List ℕ → ℕ → ℕ → List ℕ
heard buf kept n = pick (eqb n kept && ltb n (length buf)) (ended (take n buf)) (take n buf)

-- ---- what is handed over for them
-- so many bytes at the front, and what they are
abbrev pub front : ℕ → List ℕ → ℕ × List ℕ
front n l = (n, take n l)

abbrev pub sized : List ℕ → ℕ × List ℕ
sized l = (length l, l)

-- what is kept after the complete lines, and what waits: a line that lacks its newline, or its first 133 bytes
unfoldable pub taken : {S A : Type 0} → (S → A → S) → (List ℕ → A) → S → List ℕ → S × (ℕ × List ℕ)
taken step f a s = (left step f a (complete s), sized (take 133 (unfinished s)))

-- the machine after the complete lines, the answers to them, which are to be written, and what waits: a line that lacks its newline,
-- or its first 133 bytes, one more than a frame may have
unfoldable pub served : Machine → List ℕ → Machine × ((ℕ × List ℕ) × (ℕ × List ℕ))
served m s = (left_by m (complete s), (sized (printed m (complete s)), sized (take 133 (unfinished s))))
