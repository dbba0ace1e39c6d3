-- What is built from a world's mappings is accepted against them, after any run.
use Rattle.std.specs.Prelude.{◌≡◌, List, ℕ, ◌≤◌, length}
use Rattle.pages.specs.Window.{accepted}
use Rattle.ranges.specs.declared.Mapping.{Mapping}
use Rattle.lines.specs.Input.{readings}
use Rattle.frames.specs.Frames.{Machine, first}
use Rattle.showing.specs.declared.Reply.{Reply}
use Rattle.inputs.specs.Run.{left_by, left_reached}
use Rattle.guarantees.specs.Runs.{Events, Follows, follows_ran}
use Rattle.guarantees.specs.Statements.{mapped}
use Rattle.building.specs.Built.{status}
use Rattle.tables_right.specs.Theorems.{said, left}
use Rattle.tables_theorems.specs.Theorems.{fit, by_sound, left_fits}
use Rattle.vetting.specs.Pass.{vetted}
use Rattle.vetting.specs.Outcome.{Accepted}
use Rattle.vet_built.specs.Accepted.{built_accepted}

-- From the first line on, after any run that keeps the promise of the step, whatever its lines.
pub any_accepted :
    (run : Events) (m : Machine) (given : List Reply) → Follows first run m given →
    (world : ℕ) (numbers : List ℕ) → status (said (mapped m world) numbers) ≡ 0 → vetted (left (mapped m world) numbers) (mapped m world) ≡ Accepted
any_accepted run m given f world numbers =
    by_sound m (fit run m given f) world (λ (l : List Mapping). status (said l numbers) ≡ 0 → vetted (left l numbers) l ≡ Accepted)
    (λ w o l ok s. built_accepted w (accepted w ok) l s.formed numbers)

-- Of the mappings that any bytes leave: what is built into 22,528 numbers or more is accepted.
pub left_accepted :
    (input : List ℕ) (world : ℕ) (numbers : List ℕ) → 22528 ≤ length numbers →
    vetted (left (mapped (left_by first input) world) numbers) (mapped (left_by first input) world) ≡ Accepted
left_accepted input world numbers h =
    let all : status (said (mapped (left_by first input) world) numbers) ≡ 0 → vetted (left (mapped (left_by first input) world) numbers) (mapped (left_by first input) world) ≡ Accepted =
    rw (left_reached first input) (any_accepted (readings input) _ _ (follows_ran first (readings input)) world numbers) in
    all (left_fits input world numbers h)
