-- What a frame leaves: all where it is refused, the site once it is fixed, the ledger and the names once set-up has ended.
use Rattle.std.proofs.Math.Path.{◌≡◌, refl}
use Rattle.std.proofs.Common.{◌∙◌, leb-false}
use Rattle.std.specs.Prelude.{true, false, Ok, Result}
use mathlib.Core.List.{List}
use Prim.Native.Nat.{ℕ, ◌<◌}
use native.Mathlib.Omega.{arith}
use Rattle.std.proofs.lemmas.Bool.{not-false}
use Rattle.calls.specs.declared.Made.{Made}
use Rattle.rules.specs.Sizes.{root}
use Rattle.rules.specs.Choice.{chosen, yes_or_no}
use Rattle.ledger.specs.Ledger.{entered}
use Rattle.registers.specs.declared.Shown.{Shown}
use Rattle.cores.specs.Power.{is_on, is_pending}
use Rattle.cores.specs.Cores.{power}
use Rattle.pages.specs.Owners.{given}
use Rattle.pages.specs.Naming.{naming}
use Rattle.calls.specs.Step.{State, called, applied, CoreTables, arrived_in, arrives}
use Rattle.parsing.specs.declared.Status.{Status}
use Rattle.parsing.specs.declared.Status.TheVariants.{Accepted}
use Rattle.parsing.specs.declared.Frame.{Frame}
use Rattle.setup.specs.Table.{ready, ended, window, cores, fixed, over, fixed_ended, over_ready, over_ended, over_window, over_cores}
use Rattle.setup.specs.Statuses.{ruled_by}
use Rattle.setup.specs.Frames.{fits}
use Rattle.setup.specs.Outcomes.{sited_by, entering_by, naming_in_by}
use Rattle.calling.specs.Calling.{site_of, trying, replied, performed, calling}
use Rattle.showing.specs.Showing.{shown_on}
use Rattle.showing.specs.declared.Reply.{Reply}
use Rattle.showing.specs.declared.Reply.TheVariants.{Told, Called}
use Rattle.arriving.specs.Arriving.{arriving}
use Rattle.frames.specs.Frames.{Machine, state_of, core_tables_of, with_site, with_ledger, with_pages, with_state, with_core_tables, framed}

-- ---- a frame by its outcomes: a case for a line that is no frame, one for all refusals, and one for each kind that is accepted, with what it has met
module _ (m : Machine) (xs : List ℕ) (P : Frame → Machine × Reply → Type 0)
    (unread : (why : Status) → P (Frame.Refused why) (m, Told why))
    (refused : (f : Frame) (why : Status) → (why ≡ Accepted → ⊥) → P f (m, Told why))
    (site : (base pages count : ℕ) → ready m.setup ≡ false → fits (record { base = base; pages = pages }) count ≡ true
    → P (Frame.Site base pages count) (with_site m ((fixed m.setup base pages count, given m.owners 0 pages root), Accepted)))
    (entry : (first last kind number : ℕ) → ready m.setup ≡ true → ended m.setup ≡ false → (entered m.ledger first last kind number).0 ≡ (Ok tt)
    → P (Frame.Entry first last kind number) (with_ledger m ((entered m.ledger first last kind number).1, Accepted)))
    (name : (first count to : ℕ) → ready m.setup ≡ true → ended m.setup ≡ false → (naming m.owners m.named (window m.setup).pages first count to).0 ≡ (Ok tt)
    → P (Frame.Name first count to) (with_pages m ((naming m.owners m.named (window m.setup).pages first count to).1, Accepted)))
    (call : (core : ℕ) → ready m.setup ≡ true → core < cores m.setup → is_on (power m.powers core) ≡ true
    → P (Frame.Call core) (with_state m (performed m.setup (state_of m) core xs)))
    (arrival : (core : ℕ) → ready m.setup ≡ true → core < cores m.setup → is_pending (power m.powers core) ≡ true
    → P (Frame.Arrival core) (with_core_tables m ((arrived_in (core_tables_of m) core).0, Accepted))) where
  pub framed_by : (f : Frame) → P f (framed m f xs)
  unfolding framed calling trying performed arriving
  framed_by (Frame.Site base pages count) =
      sited_by m.setup m.owners base pages count (λ (o : (List ℕ × List ℕ) × Status). P (Frame.Site base pages count) (with_site m o))
      (refused (Frame.Site base pages count)) (site base pages count)
  framed_by (Frame.Entry first last kind number) =
      entering_by m.setup m.ledger first last kind number (λ (o : List ℕ × Status). P (Frame.Entry first last kind number) (with_ledger m o))
      (refused (Frame.Entry first last kind number)) (entry first last kind number)
  framed_by (Frame.Name first count to) =
      naming_in_by m.setup m.owners m.named first count to (λ (o : (List ℕ × List ℕ) × Status). P (Frame.Name first count to) (with_pages m o))
      (refused (Frame.Name first count to)) (name first count to)
  framed_by (Frame.Call core) =
      ruled_by (λ (o : (List ℕ × State) × Result Made Status). P (Frame.Call core) (with_state m (o.0, replied core o.0.1 o.1))) _ _ _ _ _
      (refused (Frame.Call core)) (λ a b c. call core (not-false _ a) (leb-false _ _ b) (not-false _ c))
  framed_by (Frame.Arrival core) =
      ruled_by (λ (o : CoreTables × Status). P (Frame.Arrival core) (with_core_tables m o)) _ _ _ _ _
      (refused (Frame.Arrival core)) (λ a b c. arrival core (not-false _ a) (leb-false _ _ b) (not-false _ c))
  framed_by (Frame.Refused why) = unread why

-- the end of set-up leaves the site
pub over_site : (s : List ℕ) → site_of (over s) ≡ site_of s
over_site s = rw (over_window s, over_cores s)

-- a call's answer is told as no status
pub shown_not_told : (core : ℕ) (r p t : List ℕ) (why : Status) → shown_on core r p t ≡ Told why → ⊥
unfolding shown_on
shown_not_told core r p t why =
    chosen (λ (q : Reply). q ≡ Told why → ⊥) (is_on (power p core)) _ _
    (λ y e. let z : ◌≡◌ {A = ℕ} 0 1 = cc in omega arith) (λ n e. let z : ◌≡◌ {A = ℕ} 0 1 = cc in omega arith)

module _ (m : Machine) (f : Frame) (xs : List ℕ) where
  -- a refused frame changes nothing
  pub refused_same : (why : Status) → (framed m f xs).1 ≡ Told why → (why ≡ Accepted → ⊥) → (framed m f xs).0 ≡ m
  unfolding performed
  refused_same why e n =
      framed_by m xs (λ (g : Frame) (o : Machine × Reply). o.1 ≡ Told why → o.0 ≡ m)
      (λ w k. refl) (λ g w d k. refl)
      (λ base pages count a b (k : Told Accepted ≡ Told why). absurd (n cc))
      (λ first last kind number a b c (k : Told Accepted ≡ Told why). absurd (n cc))
      (λ first count to a b c (k : Told Accepted ≡ Told why). absurd (n cc))
      (λ core a b c k. absurd (shown_not_told _ _ _ _ why k))
      (λ core a b c (k : Told Accepted ≡ Told why). absurd (n cc))
      f e

  -- no frame but an accepted call ends set-up
  pub told_goes_on : (why : Status) → (framed m f xs).1 ≡ Told why → ended (framed m f xs).0.setup ≡ ended m.setup
  unfolding performed
  told_goes_on why e =
      framed_by m xs (λ (g : Frame) (o : Machine × Reply). o.1 ≡ Told why → ended o.0.setup ≡ ended m.setup)
      (λ w k. refl) (λ g w d k. refl) (λ base pages count a b k. fixed_ended m.setup base pages count) (λ first last kind number a b c k. refl) (λ first count to a b c k. refl)
      (λ core a b c k. absurd (shown_not_told _ _ _ _ why k)) (λ core a b c k. refl) f e

  -- and after one it has ended
  pub call_ends : (core world : ℕ) (x : Shown) → (framed m f xs).1 ≡ Called core world x → ended (framed m f xs).0.setup ≡ true
  unfolding performed
  call_ends core world x e =
      framed_by m xs (λ (g : Frame) (o : Machine × Reply). o.1 ≡ Called core world x → ended o.0.setup ≡ true)
      (λ w (k : Told w ≡ Called core world x). absurd (not_called w k))
      (λ g w d (k : Told w ≡ Called core world x). absurd (not_called w k))
      (λ base pages count a b (k : Told Accepted ≡ Called core world x). absurd (not_called Accepted k))
      (λ first last kind number a b c (k : Told Accepted ≡ Called core world x). absurd (not_called Accepted k))
      (λ first count to a b c (k : Told Accepted ≡ Called core world x). absurd (not_called Accepted k))
      (λ c a b d k. over_ended m.setup)
      (λ c a b d (k : Told Accepted ≡ Called core world x). absurd (not_called Accepted k)) f e
    where
      not_called : (w : Status) → Told w ≡ Called core world x → ⊥
      not_called w k = let z : ◌≡◌ {A = ℕ} 0 1 = cc in omega arith

  -- a fixed site stays for good
  pub site_stays : ready m.setup ≡ true → (ready (framed m f xs).0.setup ≡ true) × (site_of (framed m f xs).0.setup ≡ site_of m.setup)
  unfolding performed
  site_stays e =
      framed_by m xs (λ (g : Frame) (o : Machine × Reply). (ready o.0.setup ≡ true) × (site_of o.0.setup ≡ site_of m.setup))
      (λ w. (e, refl)) (λ g w d. (e, refl)) (λ base pages count a b. absurd (yes_or_no _ e a)) (λ first last kind number a b c. (e, refl)) (λ first count to a b c. (e, refl))
      (λ core a b c. (over_ready m.setup ∙ e, over_site m.setup)) (λ core a b c. (e, refl)) f

  -- set-up that has ended stays so, and with it the ledger and the names
  pub record Settled (after : Machine) : Type 0 where
    pub ended : ended after.setup ≡ true
    pub ledger : after.ledger ≡ m.ledger
    pub named : after.named ≡ m.named

  pub settled : ended m.setup ≡ true → Settled (framed m f xs).0
  unfolding performed called applied
  settled e =
      framed_by m xs (λ (g : Frame) (o : Machine × Reply). Settled o.0)
      (λ w. record { ended = e; ledger = refl; named = refl }) (λ g w d. record { ended = e; ledger = refl; named = refl })
      (λ base pages count a b. record { ended = fixed_ended m.setup base pages count ∙ e; ledger = refl; named = refl })
      (λ first last kind number a b c. absurd (yes_or_no _ e b)) (λ first count to a b c. absurd (yes_or_no _ e b))
      (λ core a b c. record { ended = over_ended m.setup; ledger = refl; named = refl }) (λ core a b c. record { ended = e; ledger = refl; named = refl }) f

-- ---- the two steps of the calls' state, as frames
module _ (m : Machine) (core : ℕ) where
  pub call_state : (xs : List ℕ) → state_of (with_state m (performed m.setup (state_of m) core xs)).0 ≡ (called (state_of m) core xs).0
  unfolding performed called applied
  call_state xs = rw (over_window m.setup, over_cores m.setup)

  pub arrival_state : (r : Status) → state_of (with_core_tables m ((arrived_in (core_tables_of m) core).0, r)).0 ≡ (arrives (state_of m) core).0
  arrival_state r = refl
