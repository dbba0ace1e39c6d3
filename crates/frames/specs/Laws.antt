-- Any frame, from what its own function ensures: one law for each kind.
use Rattle.std.specs.Prelude.{◌≡◌, List, ℕ}
use Rattle.calls.specs.Step.{state, core_tables}
use Rattle.calls.specs.declared.Site.{Site}
use Rattle.parsing.specs.declared.Status.{Status}
use Rattle.parsing.specs.declared.Frame.{Frame}
use Rattle.setup.specs.Frames.{sited, entering, naming_in}
use Rattle.calling.specs.Calling.{site_of, calling}
use Rattle.showing.specs.declared.Reply.{Reply}
use Rattle.showing.specs.declared.Reply.TheVariants.{Told}
use Rattle.arriving.specs.Arriving.{arriving}
use Rattle.frames.specs.Frames.{machine, framed}

module _ (s n l o v p t k : List ℕ) (f : Frame) (xs : List ℕ) where
  pub step_site : (base pages count : ℕ) (s' o' : List ℕ) (r : Status) → f ≡ Frame.Site base pages count → ((s', o'), r) ≡ sited s o base pages count
      → (machine s' n l o' v p t k, Told r) ≡ framed (machine s n l o v p t k) f xs
  unfolding framed
  step_site base pages count s' o' r e h = rw (e, ← h)

  pub step_entry : (first last kind number : ℕ) (l' : List ℕ) (r : Status) → f ≡ Frame.Entry first last kind number → (l', r) ≡ entering s l first last kind number
      → (machine s n l' o v p t k, Told r) ≡ framed (machine s n l o v p t k) f xs
  unfolding framed
  step_entry first last kind number l' r e h = rw (e, ← h)

  pub step_name : (first count to : ℕ) (o' n' : List ℕ) (r : Status) → f ≡ Frame.Name first count to → ((o', n'), r) ≡ naming_in s o n first count to
      → (machine s n' l o' v p t k, Told r) ≡ framed (machine s n l o v p t k) f xs
  unfolding framed
  step_name first count to o' n' r e h = rw (e, ← h)

  pub step_call : (core : ℕ) (s' : List ℕ) (w : Site) (l' o' v' p' t' k' : List ℕ) (r : Reply) → f ≡ Frame.Call core
      → ((s', state w l' o' v' p' t' k'), r) ≡ calling s (state (site_of s) l o v p t k) core xs
      → (machine s' n l' o' v' p' t' k', r) ≡ framed (machine s n l o v p t k) f xs
  unfolding framed
  step_call core s' w l' o' v' p' t' k' r e h = rw (e, ← h)

  pub step_arrival : (core : ℕ) (v' p' t' : List ℕ) (r : Status) → f ≡ Frame.Arrival core → (core_tables v' p' t', r) ≡ arriving s (core_tables v p t) core
      → (machine s n l o v' p' t' k, Told r) ≡ framed (machine s n l o v p t k) f xs
  unfolding framed
  step_arrival core v' p' t' r e h = rw (e, ← h)

  pub step_refused : (why : Status) → f ≡ Frame.Refused why → (machine s n l o v p t k, Told why) ≡ framed (machine s n l o v p t k) f xs
  unfolding framed
  step_refused why e = rw e

pub ruleset steps = (step_site, step_entry, step_name, step_call, step_arrival, step_refused)
