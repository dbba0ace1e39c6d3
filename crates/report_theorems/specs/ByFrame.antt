-- What is counted of a frame, beside what the frame does: nothing where it is answered with a status, and once where it is an accepted call.
use Rattle.std.specs.Prelude.{◌≡◌, true, List, [], ◌∷◌, Result}
use Prim.Native.Nat.{ℕ, ◌<◌}
use Rattle.std.proofs.Common.{leb-false}
use Rattle.std.proofs.lemmas.Bool.{not-false}
use Rattle.calls.specs.declared.Made.{Made}
use Rattle.cores.specs.Power.{is_on}
use Rattle.cores.specs.Cores.{power}
use Rattle.calls.specs.Step.{State, called}
use Rattle.parsing.specs.declared.Status.{Status}
use Rattle.parsing.specs.declared.Frame.{Frame}
use Rattle.parsing.specs.declared.Frame.TheVariants as Frame
use Rattle.setup.specs.Table.{ready, cores}
use Rattle.setup.specs.Statuses.{ruled_by}
use Rattle.calling.specs.Calling.{trying, replied, performed, calling}
use Rattle.showing.specs.declared.Reply.{Reply}
use Rattle.showing.specs.declared.Reply.TheVariants.{Told}
use Rattle.frames.specs.Frames.{Machine, state_of, with_state, framed}
use Rattle.counting.specs.Counted.{Counted, counted_one, counted_try, counted_of}

module _ (m : Machine) (xs : List ℕ) (P : Frame → Machine × Reply → List Counted → Type 0)
    (none : (f : Frame) (last : Machine) (why : Status) → P f (last, Told why) [])
    (call : (core : ℕ) → ready m.setup ≡ true → core < cores m.setup → is_on (power m.powers core) ≡ true
    → P (Frame.Call core) (with_state m (performed m.setup (state_of m) core xs)) (counted_one xs (called (state_of m) core xs).1 ∷ [])) where
  pub counted_by : (f : Frame) → P f (framed m f xs) (counted_of m f xs)
  unfolding framed calling trying performed
  counted_by (Frame.Site base pages count) = none _ _ _
  counted_by (Frame.Entry first last kind number) = none _ _ _
  counted_by (Frame.Name first count to) = none _ _ _
  counted_by (Frame.Call core) =
      ruled_by (λ (o : (List ℕ × State) × Result Made Status). P (Frame.Call core) (with_state m (o.0, replied core o.0.1 o.1)) (counted_try xs o.1)) _ _ _ _ _
      (λ why d. none _ _ why) (λ a b c. call core (not-false _ a) (leb-false _ _ b) (not-false _ c))
  counted_by (Frame.Arrival core) = none _ _ _
  counted_by (Frame.Refused why) = none _ _ why
