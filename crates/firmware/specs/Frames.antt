-- A function for C does what its frame does: the machine is the one after the frame, and the number is that of the frame's answer. So what
-- holds of any run of frames holds of any run of these calls, from fresh tables on.
use Rattle.std.specs.Prelude.{◌≡◌, refl, take, Err, Ok, Result}
use Rattle.std.proofs.Math.Path.{ap}
use Rattle.std.proofs.Common.{◌∙◌}
use mathlib.Core.List.{List, [], ◌∷◌}
use Prim.Native.Nat.{ℕ}
use Rattle.std.proofs.Math.ListN.{drop}
use Rattle.parsing.specs.declared.Status.{Status}
use Rattle.rules.specs.Choice.{chosen}
use Rattle.cores.specs.Power.{is_on}
use Rattle.cores.specs.Cores.{power}
use Rattle.calls.specs.Step.{State, state, CoreTables, core_tables}
use Rattle.calls.specs.declared.Site.{Site}
use Rattle.calls.specs.declared.Made.{Made}
use Rattle.parsing.specs.Frame.{status_byte}
use Rattle.parsing.specs.declared.Frame.TheVariants as Frame
use Rattle.setup.specs.Frames.{sited, entering, naming_in}
use Rattle.showing.specs.Showing.{shown_on}
use Rattle.showing.specs.declared.Reply.{Reply}
use Rattle.showing.specs.declared.Reply.TheVariants as Reply
use Rattle.calling.specs.Calling.{site_of, trying, shown_in, replied, calling}
use Rattle.arriving.specs.Arriving.{arriving}
use Rattle.frames.specs.Frames.{Machine, machine, framed}
use Rattle.firmware.specs.Numbers.{in_byte, refusal, telling, answering, call_told}

-- the number of a frame's answer: its status, 0 where the call was accepted
abbrev pub number : Reply → ℕ
number (Reply.Told why) = status_byte why
number (Reply.Called core world x) = 0

abbrev pub numbered : Machine × Reply → Machine × ℕ
numbered o = (o.0, number o.1)

module _ (s m l o v p t k xs : List ℕ) where
  pub site_frame : (base pages cores n : ℕ) (s' o' : List ℕ) → ((s', o'), n) ≡ in_byte (sited s o base pages cores)
      → (machine s' m l o' v p t k, n) ≡ numbered (framed (machine s m l o v p t k) (Frame.Site base pages cores) xs)
  unfolding framed
  site_frame base pages cores n s' o' h = ap (λ (z : (List ℕ × List ℕ) × ℕ). (machine z.0.0 m l z.0.1 v p t k, z.1)) h

  pub entry_frame : (lowest last kind handler n : ℕ) (l' : List ℕ) → (l', n) ≡ in_byte (entering s l lowest last kind handler)
      → (machine s m l' o v p t k, n) ≡ numbered (framed (machine s m l o v p t k) (Frame.Entry lowest last kind handler) xs)
  unfolding framed
  entry_frame lowest last kind handler n l' h = ap (λ (z : List ℕ × ℕ). (machine s m z.0 o v p t k, z.1)) h

  pub name_frame : (lowest count to n : ℕ) (o' m' : List ℕ) → ((o', m'), n) ≡ in_byte (naming_in s o m lowest count to)
      → (machine s m' l o' v p t k, n) ≡ numbered (framed (machine s m l o v p t k) (Frame.Name lowest count to) xs)
  unfolding framed
  name_frame lowest count to n o' m' h = ap (λ (z : (List ℕ × List ℕ) × ℕ). (machine s z.0.1 l z.0.0 v p t k, z.1)) h

  pub arrival_frame : (core n : ℕ) (v' p' t' : List ℕ) → (core_tables v' p' t', n) ≡ in_byte (arriving s (core_tables v p t) core)
      → (machine s m l o v' p' t' k, n) ≡ numbered (framed (machine s m l o v p t k) (Frame.Arrival core) xs)
  unfolding framed
  arrival_frame core n v' p' t' h = ap (λ (z : CoreTables × ℕ). (machine s m l o z.0.saved z.0.powers z.0.turns k, z.1)) h

-- ---- a call
-- what C is told of a call, by the frame's answer: the world and the numbers shown come first; where the frame is refused, what was there stays
abbrev pub Shows : Reply → List ℕ → List ℕ → Type 0
Shows (Reply.Told why) told told' = told' ≡ told
Shows (Reply.Called core world x) told told' = take 5 told' ≡ (world ∷ x.x0 ∷ x.x1 ∷ x.x2 ∷ x.x3 ∷ [])

by_tried : (told : List ℕ) (core : ℕ) (z : (List ℕ × State) × Result Made Status)
    → (◌≡◌ {A = (List ℕ × State) × ℕ} ((answering told core z).0.0, (answering told core z).1) (z.0, number (replied core z.0.1 z.1)))
    × Shows (replied core z.0.1 z.1) told (answering told core z).0.1
unfolding shown_on
by_tried told core (o, Err why) = (refl, refl)
by_tried told core (o, Ok made) =
    chosen (λ (r : Reply). (◌≡◌ {A = (List ℕ × State) × ℕ} (o, 0) (o, number r)) × Shows r told (telling told made r)) (is_on (power o.1.powers core)) _ _ (λ e. (refl, refl))
    (λ e. (refl, refl))

last_two : (told : List ℕ) (core : ℕ) (w : State) (made : Made) → drop 5 (telling told made (shown_in core w)) ≡ (made.caller ∷ refusal made.answer ∷ [])
unfolding shown_on
last_two told core w made =
    chosen (λ (r : Reply). drop 5 (telling told made r) ≡ (made.caller ∷ refusal made.answer ∷ [])) (is_on (power w.powers core)) _ _ (λ e. refl)
    (λ e. refl)

module _ (s m l o v p t k xs told : List ℕ) (core n : ℕ) (s' l' o' v' p' t' k' told' : List ℕ) (w : Site)
    (h : (((s', state w l' o' v' p' t' k'), told'), n) ≡ call_told s (state (site_of s) l o v p t k) told core xs) where
  pub call_frame : (machine s' m l' o' v' p' t' k', n) ≡ numbered (framed (machine s m l o v p t k) (Frame.Call core) xs)
  unfolding framed calling call_told
  call_frame =
      let z = (by_tried told core (trying s (state (site_of s) l o v p t k) core xs)).0 in
      ap (λ (y : (List ℕ × State) × ℕ). (machine y.0.0 m y.0.1.ledger y.0.1.owners y.0.1.saved y.0.1.powers y.0.1.turns y.0.1.lists, y.1))
      (ap (λ (y : ((List ℕ × State) × List ℕ) × ℕ). (y.0.0, y.1)) h ∙ z)

  pub call_shows : Shows (framed (machine s m l o v p t k) (Frame.Call core) xs).1 told told'
  unfolding framed calling call_told
  call_shows =
      let z = (by_tried told core (trying s (state (site_of s) l o v p t k) core xs)).1 in
      rw (ap (λ (y : ((List ℕ × State) × List ℕ) × ℕ). y.0.1) h) z

  -- the other two are who called and the refusal of what was answered
  pub call_tells : (after : List ℕ × State) (made : Made) → trying s (state (site_of s) l o v p t k) core xs ≡ (after, Ok made)
      → drop 5 told' ≡ (made.caller ∷ refusal made.answer ∷ [])
  unfolding call_told
  call_tells after made e =
      let a = ap (λ (y : ((List ℕ × State) × List ℕ) × ℕ). drop 5 y.0.1) h in
      let b = ap (λ (y : (List ℕ × State) × Result Made Status). drop 5 (answering told core y).0.1) e in
      a ∙ b ∙ last_two told core after.1 made
