-- What holds of the state at every time after set-up, and that every call and every arrival keeps it.
use Rattle.std.specs.Prelude.{◌≡◌, true, List, ℕ, ◌≤◌, ◌<◌, ltb}
use Rattle.std.proofs.Common.{arith}
use borrow.Author.Tests.{eqb-true, ltb-true, ltb-false}
use Rattle.rules.specs.Choice.{either}
use Rattle.registers.specs.Registers.{Whole, saving_whole}
use Rattle.cores.specs.Power.{off, pending, is_on, is_pending}
use Rattle.cores.specs.Cores.{power, with_power, with_power_whole, turn, with_turn, with_turn_whole, power_other, turn_same, turn_other}
use Rattle.cores.specs.declared.Power.{Power}
use Rattle.cores.specs.declared.Turn.{Turn}
use Rattle.rules.specs.Sizes.{most_cores}
use Rattle.pages.specs.Window.{accepted, run_is}
use Rattle.pages.specs.Owners.{WholeOwners, given, given_whole, Packed, given_packed}
use Rattle.mapping.specs.Lists.{WholeLists, holding_whole, released_whole, held, holding, holding_other, holding_inserts, released_other, released_takes}
use Rattle.mapping.specs.Sound.{Sound}
use Rattle.mapping.proofs.Sound.{granted_room, granted_formed, granted_keeps, without_keeps}
use Rattle.ranges.specs.declared.Mapping.{Mapping}
use Rattle.transfers.specs.Granted.{Movable, moved_keeps}
use Rattle.transfers.proofs.Granted.{transfer_granted}
use Rattle.rules.specs.Sizes.{normal}
use Rattle.judgements.specs.Grounds.{Between}
use Rattle.judgements.proofs.Grounds.{Grounds, grounded}
use Rattle.judgements.specs.Grounds.Between.{to_caller, to_normal}
use Rattle.judgements.specs.declared.Deed.{Deed}
use Rattle.judgements.specs.declared.Deed.TheVariants.{Nothing, Move, Map, Unmap, Start, GoOff, HandOver, Finish}
use Rattle.answers.specs.Laws.{answered_whole}
use Rattle.deeds.specs.Deeds.{Tables, with_owners, with_saved, with_powers, with_turns, with_lists}
use Rattle.calls.specs.Step.{State, state, sight, caller_of, tables_of, with_tables, carried_in, applied, called}
use Rattle.calls.specs.Effects.{deed_in, answer_in, after, after_arrival, arrival_by, WholeTables}
use Rattle.calls.specs.Right.{Right, Running, handed_running, home_running, is_world, normal_running, off_running, on_exists, same_or_other}

-- ---- a right state with other tables: what they have to be
module _ (s : State) (r : Right s) where
  right_with : (t : Tables) → WholeTables (with_tables s t) → Packed t.owners s.site.window.pages
      → ((world : ℕ) → Sound s.site.window t.owners world (held t.lists world))
      → ((core : ℕ) → core < most_cores → Running (turn t.turns core) (power t.powers core))
      → ((core : ℕ) → s.site.cores ≤ core → (power t.powers core).state ≡ off)
      → Right (with_tables s t)
  right_with t whole packed sound running absent =
      record { window = r.window; some_cores = r.some_cores; few_cores = r.few_cores; whole = whole; packed = packed; sound = sound; running = running; absent = absent }

  right_owners : (o : List ℕ) → WholeOwners o → Packed o s.site.window.pages → ((world : ℕ) → Sound s.site.window o world (held s.lists world))
      → Right (with_tables s (with_owners (tables_of s) o))
  right_owners o h packed sound =
      right_with (with_owners (tables_of s) o)
      (record { owners_whole = h; saved_whole = r.whole.saved_whole; powers_whole = r.whole.powers_whole; turns_whole = r.whole.turns_whole; lists_whole = r.whole.lists_whole })
      packed sound r.running r.absent

  right_saved : (n : List ℕ) → Whole n → Right (with_tables s (with_saved (tables_of s) n))
  right_saved n h =
      right_with (with_saved (tables_of s) n)
      (record { owners_whole = r.whole.owners_whole; saved_whole = h; powers_whole = r.whole.powers_whole; turns_whole = r.whole.turns_whole; lists_whole = r.whole.lists_whole })
      r.packed r.sound r.running r.absent

  right_lists : (m : List ℕ) → WholeLists m → ((world : ℕ) → Sound s.site.window s.owners world (held m world)) → Right (with_tables s (with_lists (tables_of s) m))
  right_lists m h sound =
      right_with (with_lists (tables_of s) m)
      (record { owners_whole = r.whole.owners_whole; saved_whole = r.whole.saved_whole; powers_whole = r.whole.powers_whole; turns_whole = r.whole.turns_whole; lists_whole = h })
      r.packed sound r.running r.absent

  -- one core's power: what the core runs has to be able to run at it
  right_power : (k : ℕ) (p : Power) → k < s.site.cores → (Running (turn s.turns k) (power s.powers k) → Running (turn s.turns k) (power (with_power s.powers k p) k))
      → Right (with_tables s (with_powers (tables_of s) (with_power s.powers k p)))
  right_power k p exists may =
      right_with (with_powers (tables_of s) (with_power s.powers k p))
      (record { owners_whole = r.whole.owners_whole; saved_whole = r.whole.saved_whole; powers_whole = with_power_whole _ k p r.whole.powers_whole; turns_whole = r.whole.turns_whole; lists_whole = r.whole.lists_whole })
      r.packed r.sound
      (λ c h. same_or_other c k (λ e. rw e (may (rw e at (r.running c h)))) (λ n. rw (power_other s.powers k p c n) (r.running c h)))
      (λ c h. rw (power_other s.powers k p c (λ e. omega arith)) (r.absent c h))

  -- what one core runs
  right_turn : (k : ℕ) (t : Turn) → k < most_cores → Running t (power s.powers k) → Right (with_tables s (with_turns (tables_of s) (with_turn s.turns k t)))
  right_turn k t inside may =
      right_with (with_turns (tables_of s) (with_turn s.turns k t))
      (record { owners_whole = r.whole.owners_whole; saved_whole = r.whole.saved_whole; powers_whole = r.whole.powers_whole; turns_whole = with_turn_whole _ k t r.whole.turns_whole; lists_whole = r.whole.lists_whole })
      r.packed r.sound
      (λ c h. same_or_other c k (λ e. rw (e, turn_same s.turns k t r.whole.turns_whole inside) may) (λ n. rw (turn_other s.turns k t c n) (r.running c h)))
      r.absent

-- ---- a deed that has its grounds, done for a core that is ON
module _ (s : State) (r : Right s) (core : ℕ) (ready : is_on (power s.powers core) ≡ true) where
  inside : core < most_cores
  inside = let h = on_exists s r core ready in omega (arith, r.few_cores)

  -- giver and taker hold the lists that the judgement looked at
  move_sound : (start count first from to : ℕ) (list : List Mapping) → Between (sight s core).inner from to list
      → Movable s.site.window s.owners list from start count first
      → (world : ℕ) → Sound s.site.window (given s.owners first count to) world (held s.lists world)
  move_sound start count first from to list to_caller m = moved_keeps s.site.window s.owners (held s.lists) normal start count first _ r.window m r.sound
  move_sound start count first from to list to_normal m = moved_keeps s.site.window s.owners (held s.lists) (caller_of s core) start count first normal r.window m r.sound

  deed_right : (d : Deed) → Grounds (sight s core).inner d → (xs : List ℕ) → Right (carried_in d s core (caller_of s core) xs)
  deed_right Nothing g xs = r
  deed_right (Move first count to) g xs =
      let w = s.site.window in
      let run = run_is w r.window g.start count first (transfer_granted _ _ _ _ _ _ _ g.verdict).0.lies in
      right_owners s r _ (given_whole _ first count to r.whole.owners_whole)
      (given_packed s.owners first count to w.pages r.whole.owners_whole (accepted w r.window).most run.inside r.packed)
      (move_sound g.start count first g.from to g.list g.between (transfer_granted _ _ _ _ _ _ _ g.verdict).0)
  deed_right (Map m) g xs =
      right_lists s r _ (holding_whole _ (caller_of s core) m r.whole.lists_whole)
      (λ world. same_or_other world (caller_of s core)
      (λ e. rw e (granted_keeps s.site.window s.owners (caller_of s core) (held s.lists (caller_of s core)) (held (holding s.lists (caller_of s core) m) (caller_of s core)) m
      r.window g.verdict
      (holding_inserts s.lists (caller_of s core) m r.whole.lists_whole (is_world (caller_of s core) g.caller)
      (λ z. omega (arith, (granted_formed s.site.window r.window (held s.lists (caller_of s core)) s.owners (caller_of s core) m g.verdict).some))
      (granted_room s.site.window r.window (held s.lists (caller_of s core)) s.owners (caller_of s core) m g.verdict))
      (r.sound (caller_of s core))))
      (λ n. rw (holding_other s.lists (caller_of s core) m world n) (r.sound world)))
  deed_right (Unmap virt size) g xs =
      right_lists s r _ (released_whole _ (caller_of s core) virt size r.whole.lists_whole)
      (λ world. same_or_other world (caller_of s core)
      (λ e. rw (e, released_takes s.lists (caller_of s core) virt size r.whole.lists_whole)
      (without_keeps s.site.window s.owners (caller_of s core) (held s.lists (caller_of s core)) virt size (r.sound (caller_of s core))))
      (λ n. rw (released_other s.lists (caller_of s core) virt size world n) (r.sound world)))
  deed_right (Start k a x) g xs = right_power s r k _ g.exists (λ t. off_running _ _ t _ g.not_on)
  deed_right GoOff g xs = right_power s r core _ (on_exists s r core ready) (λ t. home_running _ _ t _ g)
  deed_right (HandOver to) g xs = right_turn _ (right_saved s r _ (saving_whole _ core to xs r.whole.saved_whole)) core _ inside (handed_running to _ g.1 ready)
  deed_right Finish g xs = right_turn _ (right_saved s r _ (saving_whole _ core normal _ r.whole.saved_whole)) core _ inside (normal_running _)

-- ---- the two steps
module _ (s : State) (r : Right s) (core : ℕ) where
  -- A call from a core that is ON keeps the state right.
  pub called_right : is_on (power s.powers core) ≡ true → (xs : List ℕ) → Right (after s core xs)
  unfolding called applied
  called_right ready xs =
      deed_right _ (right_saved s r _ (answered_whole s.saved core (caller_of s core) xs (answer_in s core xs) r.whole.saved_whole)) core ready
      (deed_in s core xs) (grounded (sight s core) xs).stands xs

  -- An arrival keeps the state right.
  pub arrival_right : Right (after_arrival s core)
  unfolding is_pending is_on
  arrival_right =
      arrival_by s core Right r
      (λ y. let was : (power s.powers core).state ≡ pending = eqb-true (power s.powers core).state pending y in
      let exists : core < s.site.cores = either (ltb core s.site.cores) (ltb-true _ _) (λ n. let a = r.absent core (ltb-false _ _ n) in absurd (omega arith)) in
      right_turn _ (right_power _ (right_saved s r _ (saving_whole _ core normal _ r.whole.saved_whole)) core _ exists (λ t. off_running _ _ t _ (rw was)))
      core _ (omega (arith, r.few_cores)) (normal_running _))
