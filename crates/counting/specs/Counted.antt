-- What a report counts: the accepted calls of any number of runs, each by the world that called and what it was answered in x0.
use Rattle.std.specs.Prelude.{Bool, ◌&&◌, List, [], ◌∷◌, ◌++◌, ℕ, eqb, length, get_or, Err, Ok, Result}
use Rattle.parsing.specs.declared.Status.{Status}
use Rattle.rules.specs.Choice.{pick}
use Rattle.judgements.specs.Judge.{called_by}
use Rattle.answers.specs.Answers.{told}
use Rattle.calls.specs.Step.{State}
use Rattle.calls.specs.declared.Made.{Made}
use Rattle.parsing.specs.declared.Frame.{Frame}
use Rattle.parsing.specs.declared.Frame.TheVariants as Frame
use Rattle.lines.specs.Meant.{meant}
use Rattle.lines.specs.Input.{reading}
use Rattle.calling.specs.Calling.{trying}
use Rattle.frames.specs.Frames.{Machine, first, state_of, framed}
use Rattle.tallies.specs.Tally.{noted}

-- ---- a line
-- it is exactly `00`, and stands between two runs
unfoldable pub apart : List ℕ → Bool
apart l = eqb (length l) 2 && (eqb (get_or l 0 0) 48 && eqb (get_or l 1 0) 48)

-- what a line means: whether it stands between two runs, and the frame that it is read as
abbrev pub Line : Type 0
Line = Bool × (Frame × List ℕ)

unfoldable pub meaning : List ℕ → Line
meaning l = (apart l, reading l)

-- ---- what is counted: a world, and what its call was answered in x0, 0 where nothing was written there
abbrev pub Counted : Type 0
Counted = ℕ × ℕ

abbrev pub counted_one : List ℕ → Made → Counted
counted_one xs made = (made.caller, told (called_by xs) made.answer)

-- of a call that was tried, if it was accepted
abbrev pub counted_try : List ℕ → Result Made Status → List Counted
counted_try xs (Err why) = []
counted_try xs (Ok made) = counted_one xs made ∷ []

-- of a frame: only of a call
abbrev pub counted_of : Machine → Frame → List ℕ → List Counted
counted_of m (Frame.Site base pages cores) xs = []
counted_of m (Frame.Entry first last kind number) xs = []
counted_of m (Frame.Name first count to) xs = []
counted_of m (Frame.Call core) xs = counted_try xs (trying m.setup (state_of m) core xs).1
counted_of m (Frame.Arrival core) xs = []
counted_of m (Frame.Refused why) xs = []

-- of lines, from a machine on: one that stands between two runs makes it fresh
unfoldable pub counted_in : Machine → List Line → List Counted
counted_in m [] = []
counted_in m (l ∷ ls) = pick l.0 (counted_in first ls) (counted_of m l.1.0 l.1.1 ++ counted_in (framed m l.1.0 l.1.1).0 ls)

-- of an input
unfoldable pub counted : List ℕ → List Counted
counted input = counted_in first (meant meaning input)

-- ---- what is kept from line to line: the machine of the run, and the table of counts
abbrev pub Kept : Type 0
Kept = Machine × List ℕ

-- several calls noted
unfoldable pub noted_all : List ℕ → List Counted → List ℕ
noted_all t [] = t
noted_all t (c ∷ cs) = noted_all (noted t c.0 c.1) cs

-- after a call
unfoldable pub after_call : List ℕ → State → List ℕ → ℕ → List ℕ → (List ℕ × State) × List ℕ
after_call s w t core xs = let o = trying s w core xs in (o.0, noted_all t (counted_try xs o.1))

-- after a frame
unfoldable pub after_frame : Kept → Frame → List ℕ → Kept
after_frame k f xs = ((framed k.0 f xs).0, noted_all k.1 (counted_of k.0 f xs))

-- after a line
unfoldable pub after_line : Kept → Line → Kept
after_line k l = pick l.0 (first, k.1) (after_frame k l.1.0 l.1.1)
