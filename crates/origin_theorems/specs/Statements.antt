-- Who is named for a page by a run, and by which of its lines: what somebody reads in the table of origins.
use Rattle.std.specs.Prelude.{◌≡◌, ◌∷◌, ◌++◌, ℕ, ◌+◌, length}
use Rattle.pages.specs.Owners.{owner}
use Rattle.frames.specs.Frames.{Machine, first}
use Rattle.origins.specs.Origins.{origin}
use Rattle.origins.specs.Lines.{lines_in}
use Rattle.tracing.specs.Traced.{Kept}
use Rattle.guarantees.specs.Runs.{Event, Events, next, ran}
use Rattle.guarantees.specs.Named.{Transfers, Unmoved, Unnamed, LastTransfer, NamedBy, Named}
use Rattle.guarantees.specs.Named as Named

-- `Named`, with the number of the line, counted from 1: that of the page's last granted transfer; of the set-up line, if there
-- was no transfer; and 0 if there was neither.
pub data NamedAt (m : Machine) (run : Events) (page : ℕ) : ℕ → ℕ → Type 0 where
  by_transfer : {to : ℕ} → (l : LastTransfer m run page to) → NamedAt m run page to (length l.before + 1)
  by_set_up : {to : ℕ} → Unmoved m run page → (l : NamedBy m run page to) → NamedAt m run page to (length l.before + 1)
  as_before : Unmoved m run page → Unnamed m run page → NamedAt m run page (owner m.owners page) 0

-- The owner of it is the one of demand 3.
pub is_named : {m : Machine} {run : Events} {page to line : ℕ} → NamedAt m run page to line → Named m run page to
is_named (by_transfer l) = Named.by_transfer l
is_named (by_set_up u l) = Named.by_set_up u l
is_named (as_before u n) = Named.as_before u n

-- ---- after the lines of a run, of what is kept of them
pub record OriginsAre (run : Events) (k : Kept) : Type 0 where
  -- The machine is the monitor's, and every line is counted.
  pub machine : k.0 ≡ ran first run
  pub counted : lines_in k.1.1 ≡ length run
  -- The owner and the line that stand for a page are those that the run names for it.
  pub named : (page : ℕ) → NamedAt first run page (owner k.0.owners page) (origin k.1.0 page)
  -- No other owner and no other line is so named.
  pub alone : (page to line : ℕ) → NamedAt first run page to line → (owner k.0.owners page ≡ to) × (origin k.1.0 page ≡ line)
  -- In particular, where some lines come before a granted transfer of the page, and none of those after it is one, it is that transfer's line.
  pub last : (page to : ℕ) (before : Events) (e : Event) (later : Events) → run ≡ before ++ e ∷ later → Transfers (ran first before) e page to
      → Unmoved (next (ran first before) e) later page → origin k.1.0 page ≡ length before + 1
