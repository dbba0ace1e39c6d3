-- What the last granted start of a core gave it, in a run; and that a core that is pending after the run has just this.
use Rattle.std.specs.Prelude.{◌≡◌, false, [], ◌∷◌, ◌++◌, ℕ, eqb, get_or}
use Rattle.std.proofs.Math.Path.{refl, sym, ap, subst}
use Rattle.std.proofs.Common.{◌∙◌, arith, eqb-true}
use Rattle.std.proofs.lemmas.Bool.{eqb-false}
use Rattle.rules.specs.Choice.{either}
use Rattle.identifiers.specs.Identifier.{argument}
use Rattle.cores.specs.Power.{power_of, pending, on, is_pending}
use Rattle.cores.specs.Cores.{power, first_power_zero, first_power_other}
use Rattle.cores.specs.declared.Power.{Power}
use Rattle.judgements.specs.Judge.{called_by, args_of}
use Rattle.judgements.proofs.Asked.{called_for}
use Rattle.judgements.proofs.Decided.{asked_start}
use Rattle.judgements.specs.declared.Deed.{Deed}
use Rattle.judgements.specs.declared.Deed.TheVariants.{Nothing, Move, Map, Unmap, Start, GoOff, HandOver, Finish}
use Rattle.calls.specs.Step.{sight}
use Rattle.calls.specs.Effects.{deed_in, arrived_power, arrival_powers}
use Rattle.calls.specs.Left.{power_started, power_off, power_spared}
use Rattle.parsing.specs.declared.Status.{Status}
use Rattle.parsing.specs.declared.Status.TheVariants.{Accepted}
use Rattle.parsing.specs.declared.Frame.{Frame}
use Rattle.parsing.specs.declared.Frame.TheVariants as Frame
use Rattle.calling.specs.Calling.{performed}
use Rattle.frames.specs.Frames.{Machine, first, framed, state_of}
use Rattle.frames.specs.Stays.{framed_by, shown_not_told}
use Rattle.showing.specs.declared.Reply.{Reply}
use Rattle.showing.specs.declared.Reply.TheVariants.{Told}
use Rattle.guarantees.specs.Runs.{Event, Events, next, reply, Taken, ran}
use Rattle.guarantees.specs.Named.{AsksStart, ToldZero}
use Rattle.guarantees.specs.Fit.{Fit}
use Rattle.guarantees.specs.Accepted.{partly, performs, right, inside, powers_are, done_told, told_done}

-- ---- what a reader takes to be the last granted start
-- A granted start of a core: the line is a call, it is accepted, in the machine that it meets it asks for the start of this
-- core, at this address and with this context, and its x0 is 0 afterwards.
pub record Starts (m : Machine) (e : Event) (target start context : ℕ) : Type 0 where
  pub core : ℕ
  pub is_call : e.0 ≡ Frame.Call core
  pub accepted : Taken (reply m e)
  pub asks : AsksStart m core e.1
  pub granted : ToldZero m core e
  pub x1 : argument (called_by e.1) (get_or e.1 1 0) ≡ target
  pub x2 : argument (called_by e.1) (get_or e.1 2 0) ≡ start
  pub x3 : argument (called_by e.1) (get_or e.1 3 0) ≡ context

-- No line of a run is a granted start of the core.
unfoldable pub Unstarted : Machine → Events → ℕ → Type 0
Unstarted m [] target = Unit {0}
Unstarted m (e ∷ rest) target = ((start context : ℕ) → Starts m e target start context → ⊥) × Unstarted (next m e) rest target

-- The last one in a run: the line where it stands, granted in the machine that the lines before it leave, and none after it.
pub record LastStart (m : Machine) (run : Events) (target start context : ℕ) : Type 0 where
  pub before : Events
  pub line : Event
  pub later : Events
  pub stands : run ≡ before ++ line ∷ later
  pub granted : Starts (ran m before) line target start context
  pub last : Unstarted (next (ran m before) line) later target

-- ---- one line
-- a deed's kind
abbrev pub kind : Deed → ℕ
kind Nothing = 0
kind (Move first count to) = 1
kind (Map m) = 2
kind (Unmap virt size) = 3
kind (Start core start context) = 4
kind GoOff = 5
kind (HandOver to) = 6
kind Finish = 7

-- a start, OFF, or neither
pub power_cases : {P : Type 0} (d : Deed) → ((k a x : ℕ) → d ≡ Start k a x → P) → (d ≡ GoOff → P) → (((k a x : ℕ) → d ≡ Start k a x → ⊥) → (d ≡ GoOff → ⊥) → P) → P
power_cases Nothing s o n = n (λ k a x e. omega (arith, ap kind e)) (λ e. omega (arith, ap kind e))
power_cases (Move first count to) s o n = n (λ k a x e. omega (arith, ap kind e)) (λ e. omega (arith, ap kind e))
power_cases (Map m) s o n = n (λ k a x e. omega (arith, ap kind e)) (λ e. omega (arith, ap kind e))
power_cases (Unmap virt size) s o n = n (λ k a x e. omega (arith, ap kind e)) (λ e. omega (arith, ap kind e))
power_cases (Start core start context) s o n = s core start context refl
power_cases GoOff s o n = o refl
power_cases (HandOver to) s o n = n (λ k a x e. omega (arith, ap kind e)) (λ e. omega (arith, ap kind e))
power_cases Finish s o n = n (λ k a x e. omega (arith, ap kind e)) (λ e. omega (arith, ap kind e))

-- what is done for a granted start
starts_deed : (m : Machine) → Fit m → (e : Event) (target start context : ℕ) (t : Starts m e target start context) → deed_in (state_of m) t.core e.1 ≡ Start target start context
unfolding args_of
starts_deed m fit e target start context t =
    rw (← t.x1, ← t.x2, ← t.x3)
    (told_done m fit e t.core t.is_call t.accepted (λ (d : Deed). d ≡ Start _ _ _) (asked_start (sight (state_of m) t.core) e.1 t.asks) t.granted)

-- what a line makes of a core's power: a granted start gives it; or it stays, with no such start; or the core is not pending
pub data Became (m : Machine) (e : Event) (target : ℕ) (o : Machine) : Type 0 where
  started : (start context : ℕ) → Starts m e target start context → power o.powers target ≡ power_of pending start context → Became m e target o
  kept : ((start context : ℕ) → Starts m e target start context → ⊥) → power o.powers target ≡ power m.powers target → Became m e target o
  gone : is_pending (power o.powers target) ≡ false → Became m e target o

pub same_or_other : {P : Type 0} (c core : ℕ) → (c ≡ core → P) → ((c ≡ core → ⊥) → P) → P
same_or_other c core y n = either (eqb c core) (λ e. y (eqb-true c core e)) (λ e. n (eqb-false c core e))

module _ (m : Machine) (fit : Fit m) (e : Event) (target : ℕ) where
  -- a call that is accepted
  call_became : (core : ℕ) (is : e.0 ≡ Frame.Call core) (t : Taken (reply m e)) → Became m e target (next m e)
  unfolding args_of is_pending
  call_became core is t =
      power_cases (deed_in (state_of m) core e.1)
      (λ k a x d. same_or_other target k
      (λ z. let v = called_for (sight (state_of m) core) e.1 (Start k a x) (λ n. omega (arith, ap kind n)) d in
      started a x (record {
        core = core;
        is_call = is;
        accepted = t;
        asks = partly v (λ h k. k.0);
        granted = done_told m fit e core is t v.so.1.1;
        x1 = sym (z ∙ v.so.1.0.0);
        x2 = sym v.so.1.0.1.0;
        x3 = sym v.so.1.0.1.1;
      })
      (rw (powers_are m fit e core is t, z) (power_started (state_of m) core e.1 k a x d (right m fit e core is t).whole.powers_whole (right m fit e core is t).few_cores)))
      (λ n. kept (λ start context u. n (let q : Start target start context ≡ Start k a x = sym (deed_of start context u) ∙ d in cc))
      (spared (λ b y q. n (let p : Start target b y ≡ Start k a x = sym q ∙ d in cc)) (λ q. absurd (omega (arith, ap kind (sym d ∙ q)))))))
      (λ d. same_or_other target core
      (λ z. gone (rw (powers_are m fit e core is t, z, power_off (state_of m) core e.1 d (right m fit e core is t).whole.powers_whole (inside m fit e core is t) (performs m fit e core is t).on)))
      (λ n. kept (λ start context u. omega (arith, ap kind (sym (deed_of start context u) ∙ d)))
      (spared (λ b y q. omega (arith, ap kind (sym q ∙ d))) (λ q. n))))
      (λ a b. kept (λ start context u. a target start context (deed_of start context u)) (spared (λ p y q. a target p y q) (λ q. absurd (b q))))
    where
      deed_of : (start context : ℕ) → Starts m e target start context → deed_in (state_of m) core e.1 ≡ Start target start context
      deed_of start context u =
          let k : Frame.Call u.core ≡ Frame.Call core = sym u.is_call ∙ is in
          let c : u.core ≡ core = cc in
          rw c at (starts_deed m fit e target start context u)

      spared : ((a x : ℕ) → deed_in (state_of m) core e.1 ≡ Start target a x → ⊥) → (deed_in (state_of m) core e.1 ≡ GoOff → target ≡ core → ⊥) → power (next m e).powers target ≡ power m.powers target
      spared a b = rw (powers_are m fit e core is t) (power_spared (state_of m) core e.1 target a b)

  -- any line
  pub became : Became m e target (next m e)
  unfolding performed is_pending
  became =
      framed_by m e.1 (λ (g : Frame) (o : Machine × Reply). e.0 ≡ g → framed m e.0 e.1 ≡ o → Became m e target o.0)
      (λ why is so. kept (status why so) refl) (λ g why d is so. kept (status why so) refl)
      (λ base pages count a b is so. kept (status Accepted so) refl) (λ lowest last type number a b c is so. kept (status Accepted so) refl)
      (λ lowest count to a b c is so. kept (status Accepted so) refl)
      (λ core a b c is so.
      subst (λ (q : Machine × Reply). Became m e target q.0) so (call_became core is (λ why k. shown_not_told _ _ _ _ why (sym (ap (λ (o : Machine × Reply). o.1) so) ∙ k))))
      (λ core a b c is so.
      let r = fit.right a in
      same_or_other target core
      (λ z. gone (rw (z, arrived_power (state_of m) core c (omega (arith, b, r.few_cores)) r.whole.powers_whole)))
      (λ n. kept (status Accepted so) (arrival_powers (state_of m) core target n)))
      e.0 refl refl
    where
      status : (why : Status) {o : Machine} → framed m e.0 e.1 ≡ (o, Told why) → (start context : ℕ) → Starts m e target start context → ⊥
      status why so start context t = t.accepted why (ap (λ (o : Machine × Reply). o.1) so)

-- ---- over runs
-- a pending core's start address and context are those of its last granted start; or it had them before, and there was none
pub data Pended (m : Machine) (run : Events) (target : ℕ) (p : Power) : Type 0 where
  by_start : LastStart m run target p.start p.context → Pended m run target p
  as_before : Unstarted m run target → power m.powers target ≡ p → Pended m run target p

-- No core is pending before the first line.
pub none_pending : (core : ℕ) → is_pending (power first.powers core) ≡ false
unfolding is_pending
none_pending core = same_or_other core 0 (λ e. rw (e, first_power_zero)) (λ n. rw (first_power_other core n))
