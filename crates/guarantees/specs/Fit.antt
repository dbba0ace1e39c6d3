-- What is so of the machine at every time, from the first line on: every line keeps it, whatever it is.
use Rattle.std.specs.Prelude.{◌≡◌, refl, true, false, ◌&&◌, List, ℕ, ◌+◌, ◌≤◌, ◌<◌, leb, eqb}
use Rattle.std.proofs.Common.{sym, ap, ◌∙◌, arith, leb-true, eqb-true}
use Rattle.std.proofs.lemmas.Bool.{eqb-false}
use Rattle.rules.specs.Sizes.{root, normal, most_cores}
use Rattle.rules.specs.Choice.{either, left_true, right_true, yes_or_no}
use Rattle.ledger.specs.Ledger.{empty}
use Rattle.registers.specs.Registers.{zeros}
use Rattle.cores.specs.Power.{is_pending}
use Rattle.cores.specs.Cores.{power, turn, first_powers, first_turns, first_turn}
use Rattle.cores.specs.declared.Turn.{Turn}
use Rattle.pages.specs.Window.{acceptable, accepted}
use Rattle.pages.specs.Owners.{unowned, unowned_whole, unowned_packed, given, given_whole, given_packed, given_opens}
use Rattle.pages.specs.Named.{WholeNamed, unnamed_whole, marked_whole}
use Rattle.pages.specs.Naming.{naming_granted}
use Rattle.mapping.specs.Lists.{unmapped, held_unmapped}
use Rattle.mapping.specs.Sound.{sound_none}
use Rattle.calls.specs.Step.{State, state}
use Rattle.calls.specs.Effects.{after_arrival, arrival_turns, arrived_runs}
use Rattle.calls.specs.Right.{Right, first_right}
use Rattle.calls.proofs.Right.{called_right, arrival_right}
use Rattle.calls.specs.declared.Site.{Site}
use Rattle.parsing.specs.declared.Frame.{Frame}
use Rattle.setup.specs.Table.{ready, ended, window, cores, unset_ready, unset_ended, fixed_ready, fixed_ended, fixed_window, fixed_cores, over, over_ready, over_ended, over_again}
use Rattle.setup.specs.Frames.{fits}
use Rattle.calling.specs.Calling.{performed}
use Rattle.frames.specs.Frames.{Machine, first, state_of}
use Rattle.frames.specs.Stays.{framed_by, call_state, arrival_state}
use Rattle.showing.specs.declared.Reply.{Reply}
use Rattle.guarantees.specs.Runs.{Event, Events, next, ran, always}

pub record Fit (m : Machine) : Type 0 where
  -- before there is a window, nothing has happened
  pub idle : ready m.setup ≡ false → m ≡ first
  -- once there is one, all is right
  pub right : ready m.setup ≡ true → Right (state_of m)
  -- a page may be named only where nothing is mapped
  pub bare : ended m.setup ≡ false → m.lists ≡ unmapped
  pub names : WholeNamed m.named
  pub ready : ended m.setup ≡ true → ready m.setup ≡ true
  -- until set-up has ended every core runs Normal
  pub home : ended m.setup ≡ false → (core : ℕ) → core < most_cores → (turn m.turns core).world ≡ normal
  -- once it has ended there is nothing left to end
  pub settled : ended m.setup ≡ true → over m.setup ≡ m.setup

-- ---- the start
pub first_fit : Fit first
first_fit =
    record {
      idle = λ e. refl;
      right = λ e. absurd (yes_or_no _ e unset_ready);
      bare = λ e. refl;
      names = unnamed_whole;
      ready = λ e. absurd (yes_or_no _ e unset_ended);
      home = λ e core h. ap (λ (t : Turn). t.world) (first_turn core h);
      settled = λ e. absurd (yes_or_no _ e unset_ended);
    }

-- ---- each frame that is accepted
-- a window and cores such as there may be, every page Root's, and nothing done yet
site_right : (site : Site) → fits site.window site.cores ≡ true → Right (state site empty (given unowned 0 site.window.pages root) zeros first_powers first_turns unmapped)
unfolding fits
site_right site e =
    let ok = left_true (acceptable site.window) (leb 1 site.cores && leb site.cores most_cores) e in
    let some = right_true (acceptable site.window) (leb 1 site.cores && leb site.cores most_cores) e in
    let pages = site.window.pages in
    first_right site empty (given unowned 0 pages root) ok
    (leb-true 1 site.cores (left_true (leb 1 site.cores) (leb site.cores most_cores) some))
    (leb-true site.cores most_cores (right_true (leb 1 site.cores) (leb site.cores most_cores) some))
    (given_whole unowned 0 pages root unowned_whole)
    (given_opens unowned 0 pages root pages unowned_whole (accepted site.window ok).most refl refl (omega arith) unowned_packed)

-- owners that a set-up line has given, where nothing is mapped
given_right : (s : State) → Right s → s.lists ≡ unmapped → (first count to : ℕ) → first + count ≤ s.site.window.pages
    → Right (state s.site s.ledger (given s.owners first count to) s.saved s.powers s.turns s.lists)
given_right s r b first count to inside =
    record {
      window = r.window;
      some_cores = r.some_cores;
      few_cores = r.few_cores;
      whole = record {
        owners_whole = given_whole s.owners first count to r.whole.owners_whole;
        saved_whole = r.whole.saved_whole;
        powers_whole = r.whole.powers_whole;
        turns_whole = r.whole.turns_whole;
        lists_whole = r.whole.lists_whole;
      };
      packed = given_packed s.owners first count to s.site.window.pages r.whole.owners_whole (accepted s.site.window r.window).most inside r.packed;
      sound = λ world. rw (b, held_unmapped world) (sound_none s.site.window _ world);
      running = r.running;
      absent = r.absent;
    }

-- the ledger has no part in it
entry_right : (s : State) → Right s → (l : List ℕ) → Right (state s.site l s.owners s.saved s.powers s.turns s.lists)
entry_right s r l =
    record {
      window = r.window;
      some_cores = r.some_cores;
      few_cores = r.few_cores;
      whole = record {
        owners_whole = r.whole.owners_whole;
        saved_whole = r.whole.saved_whole;
        powers_whole = r.whole.powers_whole;
        turns_whole = r.whole.turns_whole;
        lists_whole = r.whole.lists_whole;
      };
      packed = r.packed;
      sound = r.sound;
      running = r.running;
      absent = r.absent;
    }

-- where every core runs Normal an arrival changes nothing about that
arrival_home : (s : State) → Right s → (core : ℕ) → is_pending (power s.powers core) ≡ true → ((c : ℕ) → c < most_cores → (turn s.turns c).world ≡ normal)
    → (c : ℕ) → c < most_cores → (turn (after_arrival s core).turns c).world ≡ normal
arrival_home s r core p f c l =
    either (eqb c core)
    (λ y. let e : c ≡ core = eqb-true c core y in rw e (arrived_runs s core p (omega arith) r.whole.turns_whole))
    (λ n. ap (λ (t : Turn). t.world) (arrival_turns s core c (eqb-false c core n)) ∙ f c l)

-- ---- any line
pub fit_next : (m : Machine) (e : Event) → Fit m → Fit (next m e)
unfolding performed
fit_next m e h =
    framed_by m e.1 (λ (g : Frame) (o : Machine × Reply). Fit o.0)
    (λ why. h) (λ g why d. h)
    (λ base pages count a b.
    let s = m.setup in
    record {
      idle = λ k. absurd (yes_or_no _ (fixed_ready s base pages count) k);
      right = λ k.
          rw (h.idle a, fixed_window first.setup base pages count, fixed_cores first.setup base pages count)
          (site_right (record { window = record { base = base; pages = pages }; cores = count }) b);
      bare = λ k. h.bare (sym (fixed_ended s base pages count) ∙ k);
      names = h.names;
      ready = λ k. fixed_ready s base pages count;
      home = λ k. h.home (sym (fixed_ended s base pages count) ∙ k);
      settled = λ k. absurd (yes_or_no _ (h.ready (sym (fixed_ended s base pages count) ∙ k)) a);
    })
    (λ first last kind number a b c.
    record { idle = λ k. absurd (yes_or_no _ a k); right = λ k. entry_right (state_of m) (h.right a) _; bare = h.bare; names = h.names; ready = h.ready; home = h.home; settled = h.settled })
    (λ first count to a b c.
    let g = naming_granted m.owners m.named (window m.setup).pages first count to c in
    record {
      idle = λ k. absurd (yes_or_no _ a k);
      right = λ k. rw g.owners_are (given_right (state_of m) (h.right a) (h.bare b) first count to g.range.inside);
      bare = h.bare;
      names = rw g.named_are (marked_whole m.named first count h.names);
      ready = h.ready;
      home = h.home;
      settled = h.settled;
    })
    (λ core a b c.
    record {
      idle = λ k. absurd (yes_or_no _ (over_ready m.setup ∙ a) k);
      right = λ k. rw (call_state m core e.1) (called_right (state_of m) (h.right a) core c e.1);
      bare = λ k. absurd (yes_or_no _ (over_ended m.setup) k);
      names = h.names;
      ready = λ k. over_ready m.setup ∙ a;
      home = λ k. absurd (yes_or_no _ (over_ended m.setup) k);
      settled = λ k. over_again m.setup;
    })
    (λ core a b c.
    record {
      idle = λ k. absurd (yes_or_no _ a k);
      right = λ k. rw (arrival_state m core) (arrival_right (state_of m) (h.right a) core);
      bare = h.bare;
      names = h.names;
      ready = h.ready;
      home = λ k. arrival_home (state_of m) (h.right a) core c (h.home k);
      settled = h.settled;
    })
    e.0

-- ---- any run
pub ran_fit : (run : Events) → Fit (ran first run)
ran_fit run = always Fit fit_next first run first_fit
