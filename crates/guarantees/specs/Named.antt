-- What a call asks for, and who is named as a page's owner by a run: what a reader takes to be the last granted transfer of the page, and the set-up line that named it.
use Rattle.std.specs.Prelude.{◌≡◌, List, [], ◌∷◌, ◌++◌, ◌⊎◌, ℕ, ◌+◌, ◌≤◌, ◌<◌, Some}
use Rattle.registers.specs.Registers.{saved}
use Rattle.pages.specs.Window.{run_of}
use Rattle.pages.specs.Owners.{owner}
use Rattle.judgements.specs.Judge.{called_by, args_of}
use Rattle.calls.specs.Step.{sight, caller_of}
use Rattle.parsing.specs.declared.Status.TheVariants.{Accepted}
use Rattle.parsing.specs.declared.Frame.TheVariants as Frame
use Rattle.setup.specs.Table.{window}
use Rattle.frames.specs.Frames.{Machine, state_of}
use Rattle.showing.specs.declared.Reply.TheVariants.{Told}
use Rattle.judgements.specs.Asked.{key, Asks, Reached}
use Rattle.guarantees.specs.Runs.{Event, Events, next, reply, Taken, ran}

-- ---- what a call asks for
-- In the machine that it meets, the call on this core asks for the transfer of so many pages from an address on to the world `to`.
abbrev pub AsksTransfer : Machine → ℕ → List ℕ → ℕ → ℕ → ℕ → Type 0
AsksTransfer m core xs start count to =
    let s = sight (state_of m) core in
    Reached s xs (λ h. Asks s.inner.caller (args_of (called_by xs) xs) h (key xs) start count to)

-- It asks for the start of a core.
abbrev pub AsksStart : Machine → ℕ → List ℕ → Type 0
AsksStart m core xs = Reached (sight (state_of m) core) xs (λ h. (h ≡ 2) × ((key xs ≡ 0x84000003) ⊎ (key xs ≡ 0xC4000003)))

-- Its caller has 0 in x0 when it is through: the call is granted.
abbrev pub ToldZero : Machine → ℕ → Event → Type 0
ToldZero m core e = saved (next m e).saved core (caller_of (state_of m) core) 0 ≡ 0

-- ---- what names an owner
-- A granted transfer of a page: the line is a call, it is accepted (its answer is no status), in the machine that it meets it
-- asks for the transfer of a run of pages, this one among them, to the world `to`, and its x0 is 0 afterwards.
pub record Transfers (m : Machine) (e : Event) (page to : ℕ) : Type 0 where
  pub core : ℕ
  pub is_call : e.0 ≡ Frame.Call core
  pub accepted : Taken (reply m e)
  pub start : ℕ
  pub count : ℕ
  pub asks : AsksTransfer m core e.1 start count to
  pub granted : ToldZero m core e
  pub lowest : ℕ
  pub lies : run_of (window m.setup) start count ≡ Some lowest
  pub low : lowest ≤ page
  pub high : page < lowest + count

-- A set-up line that names the page's owner: it is accepted, and the page is one of its run.
pub record Names (m : Machine) (e : Event) (page to : ℕ) : Type 0 where
  pub lowest : ℕ
  pub count : ℕ
  pub is_name : e.0 ≡ Frame.Name lowest count to
  pub accepted : reply m e ≡ Told Accepted
  pub low : lowest ≤ page
  pub below : page < lowest + count

-- ---- where in a run they stand
-- No line of a run is a granted transfer of the page.
unfoldable pub Unmoved : Machine → Events → ℕ → Type 0
Unmoved m [] page = Unit {0}
Unmoved m (e ∷ rest) page = ((to : ℕ) → Transfers m e page to → ⊥) × Unmoved (next m e) rest page

-- No line of a run names it.
unfoldable pub Unnamed : Machine → Events → ℕ → Type 0
Unnamed m [] page = Unit {0}
Unnamed m (e ∷ rest) page = ((to : ℕ) → Names m e page to → ⊥) × Unnamed (next m e) rest page

-- The last granted transfer of the page in a run: the line where it stands, granted in the machine that the lines before it
-- leave, and none among the lines after it.
pub record LastTransfer (m : Machine) (run : Events) (page to : ℕ) : Type 0 where
  pub before : Events
  pub line : Event
  pub later : Events
  pub stands : run ≡ before ++ line ∷ later
  pub granted : Transfers (ran m before) line page to
  pub last : Unmoved (next (ran m before) line) later page

-- The set-up line that names the page.
pub record NamedBy (m : Machine) (run : Events) (page to : ℕ) : Type 0 where
  pub before : Events
  pub line : Event
  pub later : Events
  pub stands : run ≡ before ++ line ∷ later
  pub named : Names (ran m before) line page to

-- Who is named for a page by a run: by its last granted transfer; by the set-up line, if there was no transfer; and if there
-- was neither, whoever owned it before, which is Root where the run starts at the first line.
pub data Named (m : Machine) (run : Events) (page : ℕ) : ℕ → Type 0 where
  by_transfer : {to : ℕ} → LastTransfer m run page to → Named m run page to
  by_set_up : {to : ℕ} → Unmoved m run page → NamedBy m run page to → Named m run page to
  as_before : Unmoved m run page → Unnamed m run page → Named m run page (owner m.owners page)
