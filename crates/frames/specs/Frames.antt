-- What a frame does to the whole machine, and how it is answered.
use Rattle.std.specs.Prelude.{List, ℕ}
use Rattle.rules.specs.Lent.{Lent}
use Rattle.ledger.specs.Ledger.{empty}
use Rattle.registers.specs.Registers.{zeros}
use Rattle.cores.specs.Cores.{first_powers, first_turns}
use Rattle.pages.specs.Owners.{unowned}
use Rattle.pages.specs.Named.{unnamed}
use Rattle.mapping.specs.Lists.{unmapped}
use Rattle.calls.specs.Step.{State, state, CoreTables, core_tables}
use Rattle.parsing.specs.declared.Status.{Status}
use Rattle.parsing.specs.declared.Frame.{Frame}
use Rattle.setup.specs.Table.{unset}
use Rattle.setup.specs.Frames.{sited, entering, naming_in}
use Rattle.calling.specs.Calling.{site_of, calling}
use Rattle.showing.specs.declared.Reply.{Reply}
use Rattle.showing.specs.declared.Reply.TheVariants.{Told}
use Rattle.arriving.specs.Arriving.{arriving}
use Rattle.frames.specs.declared.Machine.{Machine as Tables}

-- everything there is: set-up, which pages were named, and what the calls work on
abbrev pub Machine : Type 0
Machine = Tables

abbrev pub machine : List ℕ → List ℕ → List ℕ → List ℕ → List ℕ → List ℕ → List ℕ → List ℕ → Machine
machine s n l o r p t m = record { setup = s; named = n; ledger = l; owners = o; saved = r; powers = p; turns = t; lists = m }

-- what is said of the machine in lent tables, before and after
abbrev pub on_machine : Lent → Lent → Lent → Lent → Lent → Lent → Lent → Lent → (Machine → Machine → Type 0) → Type 0
on_machine s n l o r p t m P =
    P (machine s.entry.now n.entry.now l.entry.now o.entry.now r.entry.now p.entry.now t.entry.now m.entry.now)
    (machine s.exit.now n.exit.now l.exit.now o.exit.now r.exit.now p.exit.now t.exit.now m.exit.now)

-- the part of it that a call works on
abbrev pub state_of : Machine → State
state_of m = state (site_of m.setup) m.ledger m.owners m.saved m.powers m.turns m.lists

abbrev pub core_tables_of : Machine → CoreTables
core_tables_of m = core_tables m.saved m.powers m.turns

-- before the first frame
abbrev pub first : Machine
first = machine unset unnamed empty unowned zeros first_powers first_turns unmapped

-- ---- any frame
abbrev pub with_site : Machine → (List ℕ × List ℕ) × Status → Machine × Reply
with_site m o = (machine o.0.0 m.named m.ledger o.0.1 m.saved m.powers m.turns m.lists, Told o.1)

abbrev pub with_ledger : Machine → List ℕ × Status → Machine × Reply
with_ledger m o = (machine m.setup m.named o.0 m.owners m.saved m.powers m.turns m.lists, Told o.1)

abbrev pub with_pages : Machine → (List ℕ × List ℕ) × Status → Machine × Reply
with_pages m o = (machine m.setup o.0.1 m.ledger o.0.0 m.saved m.powers m.turns m.lists, Told o.1)

abbrev pub with_state : Machine → (List ℕ × State) × Reply → Machine × Reply
with_state m o =
    (machine o.0.0 m.named o.0.1.ledger o.0.1.owners o.0.1.saved o.0.1.powers o.0.1.turns o.0.1.lists, o.1)

abbrev pub with_core_tables : Machine → CoreTables × Status → Machine × Reply
with_core_tables m o = (machine m.setup m.named m.ledger m.owners o.0.saved o.0.powers o.0.turns m.lists, Told o.1)

-- the machine after a frame with these eight numbers, and the answer; a line that is no frame has its answer already
unfoldable pub framed : Machine → Frame → List ℕ → Machine × Reply
framed m (Frame.Site base pages count) xs = with_site m (sited m.setup m.owners base pages count)
framed m (Frame.Entry first last kind number) xs = with_ledger m (entering m.setup m.ledger first last kind number)
framed m (Frame.Name first count to) xs = with_pages m (naming_in m.setup m.owners m.named first count to)
framed m (Frame.Call core) xs = with_state m (calling m.setup (state_of m) core xs)
framed m (Frame.Arrival core) xs = with_core_tables m (arriving m.setup (core_tables_of m) core)
framed m (Frame.Refused why) xs = (m, Told why)
