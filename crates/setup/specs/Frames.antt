-- The three frames of set-up: what each does, and how it is answered. And whether a frame for a core may come.
use Rattle.std.specs.Prelude.{Bool, false, not, ◌&&◌, ◌||◌, List, ℕ, leb, Err, Ok, Result, ⊤}
use Rattle.rules.specs.declared.Fault.TheVariants as Fault
use Rattle.rules.specs.declared.Fault.{Fault}
use Rattle.rules.specs.Sizes.{root, most_cores}
use Rattle.rules.specs.Choice.{pick}
use Rattle.ledger.specs.Ledger.{entered}
use Rattle.pages.specs.Window.{acceptable}
use Rattle.pages.specs.Owners.{given}
use Rattle.pages.specs.Naming.{naming}
use Rattle.pages.specs.declared.Window.{Window}
use Rattle.parsing.specs.declared.Status.{Status}
use Rattle.parsing.specs.declared.Status.TheVariants.{Accepted, Misplaced, OutOfRange, Clash}
use Rattle.setup.specs.Table.{ready, ended, window, cores, fixed}
use Rattle.setup.specs.Statuses.{ruled}

-- ---- 11: the window and the number of cores, once
-- a window that there may be, and 1 to 8 cores
unfoldable pub fits : Window → ℕ → Bool
fits w cores = acceptable w && (leb 1 cores && leb cores most_cores)

-- set-up, and the owners: every page of the window is Root's
unfoldable pub sited : List ℕ → List ℕ → ℕ → ℕ → ℕ → (List ℕ × List ℕ) × Status
sited s owners base pages cores =
    ruled (λ (why : Status). ((s, owners), why)) (ready s) (not (fits (record { base = base; pages = pages }) cores)) false
    ((fixed s base pages cores, given owners 0 pages root), Accepted)

-- ---- 10 and 12: after the 11, until set-up has ended
unfoldable pub untimely : List ℕ → Bool
untimely s = not (ready s) || ended s

-- how the ledger's answer and that of the pages are told
abbrev pub entered_status : Result ⊤ Fault → Status
entered_status (Ok tt) = Accepted
entered_status (Err Fault.OutOfRange) = OutOfRange
entered_status (Err Fault.Taken) = Clash

-- the ledger
unfoldable pub entering : List ℕ → List ℕ → ℕ → ℕ → ℕ → ℕ → List ℕ × Status
entering s t first last kind number =
    let o = entered t first last kind number in pick (untimely s) (t, Misplaced) (o.1, entered_status o.0)

-- the owners and the named pages
unfoldable pub naming_in : List ℕ → List ℕ → List ℕ → ℕ → ℕ → ℕ → (List ℕ × List ℕ) × Status
naming_in s owners named first count to =
    let o = naming owners named (window s).pages first count to in pick (untimely s) ((owners, named), Misplaced) (o.1, entered_status o.0)

-- ---- 20 and 21: a frame for a core, in the state that the frame asks for
abbrev pub core_ruled : {A : Type 0} → (Status → A) → List ℕ → ℕ → Bool → A → A
core_ruled deny s core fits done = ruled deny (not (ready s)) (leb (cores s) core) (not fits) done

abbrev pub core_verdict : List ℕ → ℕ → Bool → Result ⊤ Status
core_verdict s core fits = core_ruled Err s core fits (Ok tt)
