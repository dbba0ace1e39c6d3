-- What mending makes of a line: a verdict, by the machine of the kept lines before it, and the line or a notice set down.
use Rattle.std.specs.Prelude.{Bool, true, false, List, ℕ, take}
use Rattle.rules.specs.Choice.{pick}
use Rattle.parsing.specs.Frame.{status_byte}
use Rattle.parsing.specs.declared.Frame.{Frame}
use Rattle.parsing.specs.declared.Frame.TheVariants as Frame
use Rattle.lines.specs.Input.{reading}
use Rattle.showing.specs.declared.Reply.{Reply}
use Rattle.showing.specs.declared.Reply.TheVariants as Reply
use Rattle.frames.specs.Frames.{Machine, framed}
use Rattle.sheets.specs.Sheet.{Sheet, sheet, counting, noted_on}

-- ---- the verdict on a line
-- a frame that set-up has no use for: a call or an arrival
abbrev pub later : Frame → Bool
later (Frame.Site base pages cores) = false
later (Frame.Entry first last kind number) = false
later (Frame.Name first count to) = false
later (Frame.Call core) = true
later (Frame.Arrival core) = true
later (Frame.Refused why) = false

-- how a frame is answered, as a status
abbrev pub status_of : Reply → ℕ
status_of (Reply.Told s) = status_byte s
status_of (Reply.Called core world x) = 0

-- the machine after a frame, and its status: 73 for a call and an arrival, which do nothing, and for any other what it is answered
unfoldable pub judged : Machine → Frame → List ℕ → Machine × ℕ
judged m f xs = pick (later f) (m, 0x73) ((framed m f xs).0, status_of (framed m f xs).1)

abbrev pub judged_line : Machine → List ℕ → Machine × ℕ
judged_line m l = judged m (reading l).0 (reading l).1

-- ---- line by line
-- what a line means: the frame that it is read as, and its bytes, as many as that can depend on
abbrev pub Line : Type 0
Line = (Frame × List ℕ) × List ℕ

unfoldable pub meaning : List ℕ → Line
meaning l = (reading l, take 133 l)

-- what is kept from line to line: the machine of the kept lines, and the sheet
abbrev pub Kept : Type 0
Kept = Machine × Sheet

-- after a line that counts, and after one too many
abbrev pub set_down : Kept → List ℕ → Line → Kept
set_down k ends l =
    let o = judged k.0 l.0.0 l.0.1 in
    (o.0, noted_on (sheet k.1.kept k.1.dropped ends) o.1 l.1)

unfoldable pub after_line : Kept → Line → Kept
after_line k l =
    let c = counting k.1.ends in
    pick c.0 (set_down k c.1 l) (k.0, sheet k.1.kept k.1.dropped c.1)
