-- The tables of a world's mappings, after any run: they lead every address where the monitor says it leads.
use Rattle.std.specs.Prelude.{◌≡◌, true, List, [], ℕ, ◌≤◌, length, None, Option}
use Rattle.std.proofs.Math.Path.{refl, ap}
use Rattle.std.proofs.Common.{◌∙◌, arith}
use Rattle.mapping.specs.Leads.{To}
use Rattle.mapping.specs.declared.Lead.{Lead}
use Rattle.rules.specs.Choice.{pick, either}
use Rattle.rules.specs.declared.Reason.TheVariants as Reason
use Rattle.pages.specs.Window.{acceptable, accepted}
use Rattle.pages.specs.declared.Window.{Window}
use Rattle.mapping.specs.Lists.{held_unmapped}
use Rattle.mapping.specs.Mapping.{lead_of}
use Rattle.mapping.specs.Sound.{Sound, sound_none}
use Rattle.ranges.specs.declared.Mapping.{Mapping}
use Rattle.identifiers.specs.Identifier.{argument}
use Rattle.judgements.specs.Judge.{HandlerSight, args_of, leading, board, row_in, by_row, by_number, by_handler, found, called_by}
use Rattle.judgements.specs.Asked.{key}
use Rattle.judgements.specs.declared.Args.{Args}
use Rattle.judgements.specs.declared.Judged.{Judged}
use Rattle.judgements.specs.declared.Answer.TheVariants.{Leads, No}
use Rattle.calls.specs.Step.{sight, judged_in}
use Rattle.calls.specs.Effects.{answer_in}
use Rattle.parsing.specs.declared.Frame.TheVariants as Frame
use Rattle.lines.specs.Input.{readings}
use Rattle.setup.specs.Table.{ready}
use Rattle.frames.specs.Frames.{Machine, first, state_of}
use Rattle.showing.specs.declared.Reply.{Reply}
use Rattle.inputs.specs.Run.{left_by, left_reached}
use Rattle.guarantees.specs.Runs.{Event, Events, Taken, Allowed, Follows, follows_is, follows_ran}
use Rattle.guarantees.specs.Fit.{Fit, ran_fit}
use Rattle.guarantees.specs.Statements.{window, mapped, caller, arg, Is, denied, x, HeededCall}
use Rattle.guarantees.proofs.Theorems.{any_line}
use Rattle.walks.specs.Walk.{walked}
use Rattle.building.specs.Built.{status}
use Rattle.layout.specs.Layout.{tables}
use Rattle.tables_right.specs.Theorems.{said, left, leads_alike}
use Rattle.tables_right.specs.Few.{most_tables, never_refused}

-- the board's handler says of C2000022 where its address leads
board_leads : (s : HandlerSight) (a : Args) (h k : ℕ) → (h ≡ 1) × (k ≡ 0xC2000022) → by_handler s a k h ≡ leading (lead_of s.own a.x1)
unfolding row_in by_row by_number board pick
board_leads s a h k is = rw (is.0, is.1)

-- ---- a machine that a run leaves
-- its lists are sound in its window; and before there is a window they are empty, and so sound in any
module _ (m : Machine) (fit : Fit m) (world : ℕ) where
  some_window : acceptable (record { base = 0; pages = 1 }) ≡ true
  unfolding acceptable
  some_window = refl

  pub by_sound : (P : List Mapping → Type 0) → ((w : Window) (o : List ℕ) (l : List Mapping) → acceptable w ≡ true → Sound w o world l → P l) → P (mapped m world)
  by_sound P f =
      either (ready m.setup)
      (λ y. let r = fit.right y in f (window m) m.owners (mapped m world) r.window (r.sound world))
      (λ n. rw (fit.idle n, held_unmapped world) (f (record { base = 0; pages = 1 }) [] [] some_window (sound_none (record { base = 0; pages = 1 }) [] world)))

-- ---- from the first line on: any run that keeps the promise of the step, whatever its lines
module _ (run : Events) (m : Machine) (given : List Reply) (f : Follows first run m given) where
  pub fit : Fit m
  fit = rw (follows_is f).0 (ran_fit run)

  -- The walk of the tables that are built of a world's mappings leads every address where the mappings do.
  pub any_tables : (world : ℕ) (numbers : List ℕ) → status (said (mapped m world) numbers) ≡ 0 → (x : ℕ) → walked (left (mapped m world) numbers) x ≡ lead_of (mapped m world) x
  any_tables world numbers =
      by_sound m fit world (λ (l : List Mapping). status (said l numbers) ≡ 0 → (x : ℕ) → walked (left l numbers) x ≡ lead_of l x)
      (λ w o l ok s. leads_alike w (accepted w ok) l s.formed numbers)

  -- There are at most 44 of them, so that who lends 22,528 numbers is never refused.
  pub any_few : (world : ℕ) → tables (mapped m world) 2 0 ≤ 44
  any_few world = by_sound m fit world (λ (l : List Mapping). tables l 2 0 ≤ 44) (λ w o l ok s. most_tables w o world l ok s)

  pub any_fits : (world : ℕ) (numbers : List ℕ) → 22528 ≤ length numbers → status (said (mapped m world) numbers) ≡ 0
  any_fits world numbers h = by_sound m fit world (λ (l : List Mapping). status (said l numbers) ≡ 0) (λ w o l ok s. never_refused w o world l ok s numbers h)

  -- ---- a call of C2000022
  module _ (e : Event) (last : Machine) (answer : Reply) (step : Allowed m e last answer)
      (core : ℕ) (call : e.0 ≡ Frame.Call core) (eight : length e.1 ≡ 8) (taken : Taken answer) (where-call : Is m core e.1 1 0xC2000022) where
    heeded : HeededCall m core e.1 last answer
    heeded = (any_line run m given f e last answer step).call core call eight taken

    judged_where : judged_in (state_of m) core e.1 ≡ leading (lead_of (mapped m (caller m core e.1)) (arg m core e.1 1))
    unfolding found args_of argument
    judged_where =
        heeded.dispatched where-call.passes ∙ ap (found (sight (state_of m) core).inner (args_of (called_by e.1) e.1) (key e.1)) where-call.reached
        ∙ board_leads (sight (state_of m) core).inner (args_of (called_by e.1) e.1) where-call.number (key e.1) where-call.so

    module _ (numbers : List ℕ) (fits : status (said (mapped m (caller m core e.1)) numbers) ≡ 0) where
      -- where the walk of the caller's tables leads the address that the call asks about
      abbrev pub walks_to : Option Lead
      walks_to = walked (left (mapped m (caller m core e.1)) numbers) (arg m core e.1 1)

      by_walk : judged_in (state_of m) core e.1 ≡ leading walks_to
      by_walk = judged_where ∙ rw (any_tables (caller m core e.1) numbers fits (arg m core e.1 1))

      -- Where it leads somewhere, the call is answered 0 with that address in x1 and those attributes in x2;
      pub walk_told : (phys attr : ℕ) → walks_to ≡ To phys attr → (x m core e.1 last 0 ≡ 0) × ((x m core e.1 last 1 ≡ phys) × (x m core e.1 last 2 ≡ attr))
      unfolding leading
      walk_told phys attr w =
          let a : answer_in (state_of m) core e.1 ≡ Leads phys attr = ap (λ (j : Judged). j.answer) by_walk ∙ rw w in
          (heeded.results 0 (rw a (omega arith)) ∙ rw a, (heeded.results 1 (rw a (omega arith)) ∙ rw a, heeded.results 2 (rw a (omega arith)) ∙ rw a))

      -- and where it leads nowhere, the call is refused with -14.
      pub walk_refused : walks_to ≡ None → last ≡ denied m core e.1 14
      unfolding leading
      walk_refused w =
          let a : answer_in (state_of m) core e.1 ≡ No Reason.Nowhere = ap (λ (j : Judged). j.answer) by_walk ∙ rw w in
          heeded.refused Reason.Nowhere a

-- ---- of what is read: the mappings that any bytes leave
module _ (input : List ℕ) (world : ℕ) (numbers : List ℕ) where
  abbrev pub mapped_by : List Mapping
  mapped_by = mapped (left_by first input) world

  -- Of these too the tables lead every address where the mappings do,
  pub left_tables : status (said mapped_by numbers) ≡ 0 → (x : ℕ) → walked (left mapped_by numbers) x ≡ lead_of mapped_by x
  left_tables = rw (left_reached first input) (any_tables (readings input) _ _ (follows_ran first (readings input)) world numbers)

  -- and 22,528 numbers are enough.
  pub left_fits : 22528 ≤ length numbers → status (said mapped_by numbers) ≡ 0
  left_fits = rw (left_reached first input) (any_fits (readings input) _ _ (follows_ran first (readings input)) world numbers)
