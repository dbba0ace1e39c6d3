-- How the code's branches meet the definition, and what came of a frame beside the monitor's answer to it.
use Rattle.std.specs.Prelude.{◌≡◌, true, List, Err, Ok, Result}
use Rattle.std.proofs.Math.Path.{refl}
use Prim.Native.Nat.{ℕ, ◌<◌}
use Rattle.std.proofs.Common.{leb-false}
use Rattle.std.proofs.lemmas.Bool.{not-false}
use Rattle.cores.specs.Power.{is_on}
use Rattle.cores.specs.Cores.{power}
use Rattle.calls.specs.Step.{State, state, called, core_tables}
use Rattle.calls.specs.declared.Site.{Site}
use Rattle.calls.specs.declared.Made.{Made}
use Rattle.parsing.specs.declared.Status.{Status}
use Rattle.parsing.specs.declared.Frame.{Frame}
use Rattle.parsing.specs.declared.Frame.TheVariants as Frame
use Rattle.setup.specs.Table.{ready, cores}
use Rattle.setup.specs.Statuses.{ruled_by}
use Rattle.setup.specs.Frames.{sited, entering, naming_in}
use Rattle.calling.specs.Calling.{site_of, trying, replied, performed, calling}
use Rattle.showing.specs.declared.Reply.{Reply}
use Rattle.showing.specs.declared.Reply.TheVariants as Reply
use Rattle.arriving.specs.Arriving.{arriving}
use Rattle.frames.specs.Frames.{Machine, machine, state_of, with_state, framed}
use Rattle.outcomes.specs.Outcomes.{tried, came, taken}
use Rattle.outcomes.specs.declared.Came.{Came}
use Rattle.outcomes.specs.declared.Came.TheVariants.{Told, Called}

-- ---- the code's branches
module _ (t : Result Made Status) where
  pub tries_refused : (why : Status) → t ≡ Err why → Told why ≡ tried t
  tries_refused why e = rw e

  pub tries_called : (made : Made) → t ≡ Ok made → Called made ≡ tried t
  tries_called made e = rw e

pub ruleset tries = (tries_refused, tries_called)

module _ (m : Machine) (f : Frame) (xs : List ℕ) where
  pub takes_site : (base pages count : ℕ) (s' o' : List ℕ) (r : Status) → f ≡ Frame.Site base pages count → ((s', o'), r) ≡ sited m.setup m.owners base pages count
      → (machine s' m.named m.ledger o' m.saved m.powers m.turns m.lists, Told r) ≡ taken m f xs
  unfolding framed came
  takes_site base pages count s' o' r e h = rw (e, ← h)

  pub takes_entry : (first last kind number : ℕ) (l' : List ℕ) (r : Status) → f ≡ Frame.Entry first last kind number → (l', r) ≡ entering m.setup m.ledger first last kind number
      → (machine m.setup m.named l' m.owners m.saved m.powers m.turns m.lists, Told r) ≡ taken m f xs
  unfolding framed came
  takes_entry first last kind number l' r e h = rw (e, ← h)

  pub takes_name : (first count to : ℕ) (o' n' : List ℕ) (r : Status) → f ≡ Frame.Name first count to → ((o', n'), r) ≡ naming_in m.setup m.owners m.named first count to
      → (machine m.setup n' m.ledger o' m.saved m.powers m.turns m.lists, Told r) ≡ taken m f xs
  unfolding framed came
  takes_name first count to o' n' r e h = rw (e, ← h)

  pub takes_call : (core : ℕ) (s' : List ℕ) (w : Site) (l' o' v' p' t' k' : List ℕ) (r : Result Made Status) (c : Came) → f ≡ Frame.Call core
      → ((s', state w l' o' v' p' t' k'), r) ≡ trying m.setup (state (site_of m.setup) m.ledger m.owners m.saved m.powers m.turns m.lists) core xs → c ≡ tried r
      → (machine s' m.named l' o' v' p' t' k', c) ≡ taken m f xs
  unfolding framed came calling
  takes_call core s' w l' o' v' p' t' k' r c e h g = rw (e, ← h, g)

  pub takes_arrival : (core : ℕ) (v' p' t' : List ℕ) (r : Status) → f ≡ Frame.Arrival core → (core_tables v' p' t', r) ≡ arriving m.setup (core_tables m.saved m.powers m.turns) core
      → (machine m.setup m.named m.ledger m.owners v' p' t' m.lists, Told r) ≡ taken m f xs
  unfolding framed came
  takes_arrival core v' p' t' r e h = rw (e, ← h)

  pub takes_refused : (why : Status) → f ≡ Frame.Refused why → (m, Told why) ≡ taken m f xs
  unfolding framed came
  takes_refused why e = rw e

pub ruleset takes = (takes_site, takes_entry, takes_name, takes_call, takes_arrival, takes_refused)

-- ---- what came of a frame, beside the monitor's answer: the same status, or an accepted call with its caller and its answer
module _ (m : Machine) (xs : List ℕ) (P : Frame → Machine × Reply → Came → Type 0)
    (told : (f : Frame) (last : Machine) (why : Status) → framed m f xs ≡ (last, Reply.Told why) → P f (last, Reply.Told why) (Told why))
    (call : (core : ℕ) → ready m.setup ≡ true → core < cores m.setup → is_on (power m.powers core) ≡ true
    → P (Frame.Call core) (with_state m (performed m.setup (state_of m) core xs)) (Called (called (state_of m) core xs).1)) where
  pub came_by : (f : Frame) → P f (framed m f xs) (came m f xs)
  unfolding framed came calling trying performed
  came_by (Frame.Site base pages count) = told _ _ _ refl
  came_by (Frame.Entry first last kind number) = told _ _ _ refl
  came_by (Frame.Name first count to) = told _ _ _ refl
  came_by (Frame.Call core) =
      ruled_by (λ (o : (List ℕ × State) × Result Made Status). framed m (Frame.Call core) xs ≡ with_state m (o.0, replied core o.0.1 o.1) → P (Frame.Call core) (with_state m (o.0, replied core o.0.1 o.1)) (tried o.1)) _ _ _ _ _
      (λ why d e. told _ _ why e) (λ a b c e. call core (not-false _ a) (leb-false _ _ b) (not-false _ c)) refl
  came_by (Frame.Arrival core) = told _ _ _ refl
  came_by (Frame.Refused why) = told _ _ why refl
