-- A call that is accepted as a frame: what it met, and that the machine after it is the call's.
use Rattle.std.specs.Prelude.{◌≡◌, refl, true, List, ℕ, ◌<◌, Some}
use Rattle.std.proofs.Common.{sym, ◌∙◌, arith}
use Rattle.std.proofs.Math.Path.{ap}
use Rattle.registers.specs.Registers.{saved}
use Rattle.cores.specs.Power.{is_on}
use Rattle.cores.specs.Cores.{power}
use Rattle.pages.specs.Window.{run_of}
use Rattle.rules.specs.Sizes.{most_cores}
use Rattle.judgements.specs.Judge.{Sight, one_of, callers}
use Rattle.judgements.specs.Asked.{Reached}
use Rattle.judgements.proofs.Asked.{called_for}
use Rattle.judgements.specs.Grounds.{Calls}
use Rattle.judgements.specs.Decided.{Decided, MovesRun}
use Rattle.judgements.proofs.Decided.{asked_transfer}
use Rattle.judgements.specs.declared.Answer.TheVariants.{Done}
use Rattle.judgements.specs.declared.Deed.{Deed}
use Rattle.judgements.specs.declared.Deed.TheVariants.{Move}
use Rattle.calls.specs.Step.{sight, caller_of, judged_in}
use Rattle.calls.specs.Effects.{after, deed_in, answer_in}
use Rattle.calls.specs.Left.{done_zero, zero_done}
use Rattle.calls.specs.Right.{Right, is_world}
use Rattle.parsing.specs.declared.Frame.{Frame}
use Rattle.parsing.specs.declared.Frame.TheVariants as Frame
use Rattle.setup.specs.Table.{ready, cores}
use Rattle.calling.specs.Calling.{performed}
use Rattle.frames.specs.Frames.{Machine, framed, state_of, with_state}
use Rattle.frames.specs.Stays.{framed_by}
use Rattle.showing.specs.declared.Reply.{Reply}
use Rattle.guarantees.specs.Runs.{Event, byte, next, reply, Taken}
use Rattle.guarantees.specs.Named.{AsksTransfer, ToldZero}
use Rattle.guarantees.specs.Fit.{Fit}
use Rattle.guarantees.specs.Entries.{is_caller}

-- a part of what a handler knows a call as
pub partly : {s : Sight} {xs : List ℕ} {P Q : ℕ → Type 0} → Reached s xs P → ((h : ℕ) → P h → Q h) → Reached s xs Q
partly r f = record { passes = r.passes; number = r.number; reached = r.reached; so = f r.number r.so }

-- the core may call, and the machine after the call is the call's
pub record Performs (m : Machine) (core : ℕ) (xs : List ℕ) (o : Machine × Reply) : Type 0 where
  pub ready : ready m.setup ≡ true
  pub exists : core < cores m.setup
  pub on : is_on (power m.powers core) ≡ true
  pub is : o ≡ with_state m (performed m.setup (state_of m) core xs)

module _ (m : Machine) (fit : Fit m) (e : Event) (core : ℕ) (is : e.0 ≡ Frame.Call core) (t : Taken (reply m e)) where
  pub performs : Performs m core e.1 (framed m e.0 e.1)
  performs =
      framed_by m e.1 (λ (g : Frame) (o : Machine × Reply). e.0 ≡ g → framed m e.0 e.1 ≡ o → Performs m core e.1 o)
      (λ why k s. absurd (t why (ap (λ (o : Machine × Reply). o.1) s)))
      (λ g why d k s. absurd (t why (ap (λ (o : Machine × Reply). o.1) s)))
      (λ base pages cores a b k s. absurd (omega (arith, ap byte (sym is ∙ k))))
      (λ lowest last kind number a b c k s. absurd (omega (arith, ap byte (sym is ∙ k))))
      (λ lowest count to a b c k s. absurd (omega (arith, ap byte (sym is ∙ k))))
      (λ c a b d k s.
      let q : Frame.Call core ≡ Frame.Call c = sym is ∙ k in
      let z : core ≡ c = cc in
      record { ready = a; exists = rw z b; on = rw z d; is = rw z })
      (λ c a b d k s. absurd (omega (arith, ap byte (sym is ∙ k))))
      e.0 refl refl

  -- ---- what it met
  pub right : Right (state_of m)
  right = fit.right performs.ready

  pub inside : core < most_cores
  inside = omega (arith, performs.exists, right.few_cores)

  world : Calls (caller_of (state_of m) core)
  world = (right.running core inside).world

  -- the world that runs there is one that calls
  pub may : one_of (caller_of (state_of m) core) callers ≡ true
  may = is_caller (caller_of (state_of m) core) world

  pub calling : caller_of (state_of m) core < 4
  calling = is_world (caller_of (state_of m) core) world

  -- ---- what the machine then has
  pub saved_are : (next m e).saved ≡ (after (state_of m) core e.1).saved
  unfolding performed
  saved_are = ap (λ (o : Machine × Reply). o.0.saved) performs.is

  pub owners_are : (next m e).owners ≡ (after (state_of m) core e.1).owners
  unfolding performed
  owners_are = ap (λ (o : Machine × Reply). o.0.owners) performs.is

  pub powers_are : (next m e).powers ≡ (after (state_of m) core e.1).powers
  unfolding performed
  powers_are = ap (λ (o : Machine × Reply). o.0.powers) performs.is

  pub turns_are : (next m e).turns ≡ (after (state_of m) core e.1).turns
  unfolding performed
  turns_are = ap (λ (o : Machine × Reply). o.0.turns) performs.is

  pub lists_are : (next m e).lists ≡ (after (state_of m) core e.1).lists
  unfolding performed
  lists_are = ap (λ (o : Machine × Reply). o.0.lists) performs.is

  -- ---- what x0 tells
  -- A call that is done has x0 0,
  pub done_told : answer_in (state_of m) core e.1 ≡ Done → ToldZero m core e
  done_told a = rw saved_are (done_zero (state_of m) core e.1 right.whole.saved_whole inside calling a)

  -- and what is asked for and has x0 0 is done.
  pub told_done : (P : Deed → Type 0) → Decided Done P (judged_in (state_of m) core e.1) → ToldZero m core e → P (deed_in (state_of m) core e.1)
  told_done P d z = zero_done (state_of m) core e.1 right.whole.saved_whole inside calling P d (rw saved_are at z)

  -- So a granted transfer moves its run.
  pub transfer_moves : (start count to : ℕ) → AsksTransfer m core e.1 start count to → ToldZero m core e → MovesRun (state_of m).site.window start count to (deed_in (state_of m) core e.1)
  transfer_moves start count to a z = told_done _ (asked_transfer (sight (state_of m) core) e.1 start count to a) z

  -- And what moves a run is a granted transfer of it.
  pub record Granted (first count to : ℕ) : Type 0 where
    pub start : ℕ
    pub asks : AsksTransfer m core e.1 start count to
    pub told : ToldZero m core e
    pub lies : run_of (state_of m).site.window start count ≡ Some first

  pub moves_granted : (first count to : ℕ) → deed_in (state_of m) core e.1 ≡ Move first count to → Granted first count to
  moves_granted first count to d =
      let v = called_for (sight (state_of m) core) e.1 (Move first count to) (λ k. let z : ◌≡◌ {A = ℕ} 0 1 = cc in omega arith) d in
      let a = v.so.0 in
      record { start = a.start; asks = record { passes = v.passes; number = v.number; reached = v.reached; so = a.asks }; told = done_told v.so.1; lies = a.lies }
