-- What comes of a frame, as values: a status, or who called and what was answered. The machine after it is the monitor's.
use Rattle.std.specs.Prelude.{List, ℕ, Err, Ok, Result}
use Rattle.parsing.specs.declared.Status.{Status}
use Rattle.calls.specs.declared.Made.{Made}
use Rattle.parsing.specs.declared.Frame.{Frame}
use Rattle.parsing.specs.declared.Frame.TheVariants as Frame
use Rattle.setup.specs.Frames.{sited, entering, naming_in}
use Rattle.calling.specs.Calling.{trying}
use Rattle.arriving.specs.Arriving.{arriving}
use Rattle.frames.specs.Frames.{Machine, state_of, core_tables_of, framed}
use Rattle.outcomes.specs.declared.Came.{Came}
use Rattle.outcomes.specs.declared.Came.TheVariants.{Told, Called}

-- of a call that was tried
abbrev pub tried : Result Made Status → Came
tried (Err why) = Told why
tried (Ok made) = Called made

-- of any frame
unfoldable pub came : Machine → Frame → List ℕ → Came
came m (Frame.Site base pages count) xs = Told (sited m.setup m.owners base pages count).1
came m (Frame.Entry first last kind number) xs = Told (entering m.setup m.ledger first last kind number).1
came m (Frame.Name first count to) xs = Told (naming_in m.setup m.owners m.named first count to).1
came m (Frame.Call core) xs = tried (trying m.setup (state_of m) core xs).1
came m (Frame.Arrival core) xs = Told (arriving m.setup (core_tables_of m) core).1
came m (Frame.Refused why) xs = Told why

-- the machine after a frame, and what came of it
abbrev pub taken : Machine → Frame → List ℕ → Machine × Came
taken m f xs = ((framed m f xs).0, came m f xs)
