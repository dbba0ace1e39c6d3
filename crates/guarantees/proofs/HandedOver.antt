-- The hand-over that a core is still in after a run; and that a core which runs Secure or Realm is in one, to that world.
use Rattle.std.specs.Prelude.{◌≡◌, List, [], ◌∷◌, ℕ}
use Rattle.std.proofs.Math.Path.{refl, ap, subst}
use Rattle.std.proofs.Common.{sym, ◌∙◌, arith}
use Rattle.cores.specs.Cores.{turn}
use Rattle.cores.specs.declared.Turn.{Turn}
use Rattle.judgements.specs.Grounds.{Takes}
use Rattle.judgements.specs.declared.Deed.TheVariants.{GoOff, Finish}
use Rattle.calls.specs.Effects.{deed_in, arrived_runs, arrival_turns}
use Rattle.calls.specs.Left as Left
use Rattle.parsing.specs.declared.Frame.{Frame}
use Rattle.parsing.specs.declared.Frame.TheVariants as Frame
use Rattle.calling.specs.Calling.{performed}
use Rattle.frames.specs.Frames.{Machine, framed, state_of}
use Rattle.frames.specs.Stays.{framed_by, shown_not_told}
use Rattle.showing.specs.declared.Reply.{Reply}
use Rattle.guarantees.specs.Runs.{Event, Events, byte, next, reply, Taken, ran}
use Rattle.guarantees.specs.Fit.{Fit, fit_next}
use Rattle.guarantees.specs.Accepted.{right, inside, turns_are}
use Rattle.guarantees.specs.Statements.{running}
use Rattle.guarantees.specs.Started.{kind, same_or_other}
use Rattle.guarantees.proofs.Steps.{hands_asked, gives_back, goes_off, off_asked}
use Rattle.guarantees.specs.HandedOver.{Away, Became, Ends, Unended, as_before, by_arrival, by_finish, by_hand_over, by_off, ends_accepted, ends_by, home, kept, not_normal, received, turn_cases}

module _ (m : Machine) (fit : Fit m) (e : Event) (core : ℕ) where
  -- an accepted call on the core
  own_became : (is : e.0 ≡ Frame.Call core) (t : Taken (reply m e)) → Became m e core (next m e)
  own_became is t =
      let s = state_of m in
      let turns = ap (λ (q : List ℕ). (turn q core).world) (turns_are m fit e core is t) in
      let whole = (right m fit e core is t).whole.turns_whole in
      let i = inside m fit e core is t in
      turn_cases (deed_in s core e.1)
      (λ to d. received to (record { is_call = is; accepted = t; asks = hands_asked m fit e core is t to d; runs = turns ∙ Left.handed_runs s core e.1 to d whole i }))
      (λ d. home (turns ∙ Left.finished_runs s core e.1 d whole i))
      (λ d. home (turns ∙ ap (λ (q : List ℕ). (turn q core).world) (Left.turns_spared s core e.1 (λ to h. omega (arith, ap kind (sym h ∙ d))) (λ h. omega (arith, ap kind (sym h ∙ d))))
      ∙ (off_asked m fit e core is t d).0))
      (λ h f o. kept (unended f o) (turns ∙ ap (λ (q : List ℕ). (turn q core).world) (Left.turns_spared s core e.1 h f)))
    where
      unended : (deed_in (state_of m) core e.1 ≡ Finish → ⊥) → (deed_in (state_of m) core e.1 ≡ GoOff → ⊥) → Ends m e core → ⊥
      unended f o (by_finish is' t' a) = f (gives_back m fit e core is t a)
      unended f o (by_off is' t' a) = o (goes_off m fit e core is t a)
      unended f o (by_arrival is' told) = omega (arith, ap byte (sym is ∙ is'))

  -- a call on another core
  other_unended : (c : ℕ) → (core ≡ c → ⊥) → e.0 ≡ Frame.Call c → Ends m e core → ⊥
  other_unended c n is (by_finish is' t a) = let k : Frame.Call core ≡ Frame.Call c = sym is' ∙ is in let z : core ≡ c = cc in n z
  other_unended c n is (by_off is' t a) = let k : Frame.Call core ≡ Frame.Call c = sym is' ∙ is in let z : core ≡ c = cc in n z
  other_unended c n is (by_arrival is' told) = omega (arith, ap byte (sym is ∙ is'))

  -- the arrival of another core
  other_arrival : (c : ℕ) → (core ≡ c → ⊥) → e.0 ≡ Frame.Arrival c → Ends m e core → ⊥
  other_arrival c n is (by_finish is' t a) = omega (arith, ap byte (sym is ∙ is'))
  other_arrival c n is (by_off is' t a) = omega (arith, ap byte (sym is ∙ is'))
  other_arrival c n is (by_arrival is' told) = let k : Frame.Arrival core ≡ Frame.Arrival c = sym is' ∙ is in let z : core ≡ c = cc in n z

  call_became : (c : ℕ) → e.0 ≡ Frame.Call c → Taken (reply m e) → Became m e core (next m e)
  call_became c is t =
      same_or_other core c (λ z. own_became (is ∙ ap (λ (q : ℕ). Frame.Call q) (sym z)) t)
      (λ n. kept (other_unended c n is)
      (ap (λ (q : List ℕ). (turn q core).world) (turns_are m fit e c is t) ∙ ap (λ (q : Turn). q.world) (Left.turns_others (state_of m) c e.1 core n)))

  -- any line
  became : Became m e core (next m e)
  unfolding performed
  became =
      framed_by m e.1 (λ (g : Frame) (o : Machine × Reply). e.0 ≡ g → framed m e.0 e.1 ≡ o → Became m e core o.0)
      (λ why is so. kept (λ z. omega (arith, ends_by m e core z, ap byte is)) refl)
      (λ g why d is so. kept (ends_accepted m e core why d (ap (λ (o : Machine × Reply). o.1) so)) refl)
      (λ base pages count a b is so. kept (λ z. omega (arith, ends_by m e core z, ap byte is)) refl)
      (λ lowest last type number a b c is so. kept (λ z. omega (arith, ends_by m e core z, ap byte is)) refl)
      (λ lowest count to a b c is so. kept (λ z. omega (arith, ends_by m e core z, ap byte is)) refl)
      (λ c a b y is so.
      subst (λ (q : Machine × Reply). Became m e core q.0) so (call_became c is (λ why k. shown_not_told _ _ _ _ why (sym (ap (λ (o : Machine × Reply). o.1) so) ∙ k))))
      (λ c a b y is so.
      let r = fit.right a in
      same_or_other core c
      (λ z. home (rw z (arrived_runs (state_of m) c y (omega (arith, b, r.few_cores)) r.whole.turns_whole)))
      (λ n. kept (other_arrival c n is) (ap (λ (q : Turn). q.world) (arrival_turns (state_of m) c core n))))
      e.0 refl refl

pub away : (core : ℕ) (run : Events) (m : Machine) → Fit m → Takes (running (ran m run) core) → Away m run core (running (ran m run) core)
unfolding ran Unended
away core [] m fit k = as_before tt refl
away core (e ∷ rest) m fit k = longer (became m fit e core) (away core rest (next m e) (fit_next m e fit) k)
  where
    w : ℕ
    w = running (ran (next m e) rest) core

    longer : Became m e core (next m e) → Away (next m e) rest core w → Away m (e ∷ rest) core w
    longer b (by_hand_over l) =
        by_hand_over (record { before = e ∷ l.before; line = l.line; later = l.later; stands = ap (λ (q : Events). e ∷ q) l.stands; handed = l.handed; since = l.since })
    longer (received to h) (as_before u r) =
        let q : w ≡ to = sym r ∙ h.runs in
        by_hand_over (rw q (record { before = []; line = e; later = rest; stands = refl; handed = h; since = u }))
    longer (kept n q) (as_before u r) = as_before (n, u) (sym q ∙ r)
    longer (home q) (as_before u r) = absurd (not_normal w k (sym r ∙ q))
