-- What a call leaves of mappings, of power and of what runs, by its deed; and what the caller's x0 tells of the deed.
use Rattle.std.specs.Prelude.{◌≡◌, refl, true, List, ℕ, ◌≤◌, ◌<◌, length, get_or, Option}
use Rattle.std.proofs.Common.{sym, ap, ◌∙◌, arith}
use Rattle.mapping.specs.Leads.{To}
use Rattle.mapping.specs.declared.Lead.{Lead}
use Rattle.rules.specs.declared.Reason.{Reason}
use Rattle.registers.specs.Registers.{Whole, saved}
use Rattle.cores.specs.Power.{power_of, put, pending, off, is_on, started, started_off, gone_off, gone_off_on, handed, finished}
use Rattle.cores.specs.Cores.{WholePowers, WholeTurns, power, turn, power_same, power_other, turn_same, turn_other}
use Rattle.cores.specs.declared.Turn.{Turn}
use Rattle.pages.specs.Window.{acceptable}
use Rattle.mapping.specs.Lists.{WholeLists, held, holding_inserts, holding_other, released_takes, released_other}
use Rattle.mapping.specs.Entries.{Inserted, Removed, without_removes}
use Rattle.mapping.proofs.Sound.{granted_room, granted_formed}
use Rattle.ranges.specs.declared.Mapping.{Mapping}
use Rattle.rules.specs.Sizes.{normal, most_cores}
use Rattle.judgements.specs.Judge.{called_by}
use Rattle.judgements.proofs.Grounds.{grounded}
use Rattle.judgements.specs.Decided.{Decided, done, refused, TellsLead, leads, leads_not}
use Rattle.judgements.specs.declared.Answer.TheVariants.{Done, Leads, Silent, No}
use Rattle.judgements.specs.declared.Deed.{Deed}
use Rattle.judgements.specs.declared.Deed.TheVariants.{Nothing, Move, Map, Unmap, Start, GoOff, HandOver, Finish}
use Rattle.answers.specs.Laws.{written_few, written_one, negative_some}
use Rattle.calls.specs.Step.{State, sight, caller_of, judged_in, carried_in, called, applied}
use Rattle.calls.specs.Effects.{deed_in, answer_in, answered_at, after, own_results, own_frame}

-- ---- what x0 tells, and what is written besides
module _ (s : State) (core : ℕ) (xs : List ℕ) (w : Whole s.saved) (h : core < most_cores) (k : caller_of s core < 4) where
  -- what the caller has in x0 and on
  abbrev x : ℕ → ℕ
  x j = saved (after s core xs).saved core (caller_of s core) j

  -- Where a call is done, its x0 is 0,
  pub done_zero : answer_in s core xs ≡ Done → x 0 ≡ 0
  done_zero e = own_results s core xs 0 w h k (rw e (omega arith)) ∙ rw e

  -- and where it is refused, it is not.
  pub refused_some : (r : Reason) → answer_in s core xs ≡ No r → x 0 ≡ 0 → ⊥
  refused_some r e z = negative_some (called_by xs) r (sym (own_results s core xs 0 w h k (rw e (omega arith)) ∙ rw e) ∙ z)

  -- So what is asked for and answered 0 is done.
  pub zero_done : (P : Deed → Type 0) → Decided Done P (judged_in s core xs) → x 0 ≡ 0 → P (deed_in s core xs)
  zero_done P (done e p) z = p
  zero_done P (refused r e) z = absurd (refused_some r e z)

  -- Where an address leads is told with x0 0.
  pub leads_zero : (phys attr : ℕ) → answer_in s core xs ≡ Leads phys attr → x 0 ≡ 0
  leads_zero phys attr e = own_results s core xs 0 w h k (rw e (omega arith)) ∙ rw e

  -- The address stands in x1, and its attributes in x2.
  pub zero_leads : (l : Option Lead) → TellsLead l (judged_in s core xs) → x 0 ≡ 0 → l ≡ To (x 1) (x 2)
  zero_leads l (leads phys attr e f) z =
      let a : x 1 ≡ phys = own_results s core xs 1 w h k (rw f (omega arith)) ∙ rw f in
      let b : x 2 ≡ attr = own_results s core xs 2 w h k (rw f (omega arith)) ∙ rw f in
      e ∙ rw (a, b)
  zero_leads l (leads_not r e) z = absurd (refused_some r e z)

  module _ (l : length xs ≡ 8) (j : ℕ) (n : j < 8) where
    -- Where nothing is written, the caller has the frame's numbers,
    pub silent_frame : answer_in s core xs ≡ Silent → x j ≡ get_or xs j 0
    silent_frame e = own_frame s core xs j w h k (omega arith) (omega arith) (rw e (omega arith))

    -- and but for x0 it has them always, unless it is told where an address leads.
    pub rest_frame : 0 < j → ((phys attr : ℕ) → answer_in s core xs ≡ Leads phys attr → ⊥) → x j ≡ get_or xs j 0
    rest_frame i d =
        let few = written_one (called_by xs) (answer_in s core xs) d in
        own_frame s core xs j w h k (omega arith) (omega arith) (omega arith)

    -- Then too, past x2.
    pub past_frame : 3 ≤ j → x j ≡ get_or xs j 0
    past_frame i =
        let few = written_few (called_by xs) (answer_in s core xs) in
        own_frame s core xs j w h k (omega arith) (omega arith) (omega arith)

-- ---- mappings
others_lists : (d : Deed) (s : State) (core caller : ℕ) (xs : List ℕ) (u : ℕ) → (u ≡ caller → ⊥) → held (carried_in d s core caller xs).lists u ≡ held s.lists u
others_lists Nothing s core caller xs u n = refl
others_lists (Move first count to) s core caller xs u n = refl
others_lists (Map m) s core caller xs u n = holding_other s.lists caller m u n
others_lists (Unmap virt size) s core caller xs u n = released_other s.lists caller virt size u n
others_lists (Start k a x) s core caller xs u n = refl
others_lists GoOff s core caller xs u n = refl
others_lists (HandOver to) s core caller xs u n = refl
others_lists Finish s core caller xs u n = refl

lists_by : (d : Deed) (s : State) (core caller : ℕ) (xs : List ℕ) → ((m : Mapping) → d ≡ Map m → ⊥) → ((virt size : ℕ) → d ≡ Unmap virt size → ⊥)
    → (carried_in d s core caller xs).lists ≡ s.lists
lists_by Nothing s core caller xs m u = refl
lists_by (Move first count to) s core caller xs m u = refl
lists_by (Map n) s core caller xs m u = absurd (m n refl)
lists_by (Unmap virt size) s core caller xs m u = absurd (u virt size refl)
lists_by (Start k a x) s core caller xs m u = refl
lists_by GoOff s core caller xs m u = refl
lists_by (HandOver to) s core caller xs m u = refl
lists_by Finish s core caller xs m u = refl

-- ---- power
powers_by : (d : Deed) (s : State) (core caller : ℕ) (xs : List ℕ) (c : ℕ) → ((a x : ℕ) → d ≡ Start c a x → ⊥) → (d ≡ GoOff → c ≡ core → ⊥)
    → power (carried_in d s core caller xs).powers c ≡ power s.powers c
powers_by Nothing s core caller xs c n o = refl
powers_by (Move first count to) s core caller xs c n o = refl
powers_by (Map m) s core caller xs c n o = refl
powers_by (Unmap virt size) s core caller xs c n o = refl
powers_by (Start k a x) s core caller xs c n o = power_other s.powers k (started (power s.powers k) a x) c (λ e. n a x (rw e))
powers_by GoOff s core caller xs c n o = power_other s.powers core (gone_off (power s.powers core)) c (o refl)
powers_by (HandOver to) s core caller xs c n o = refl
powers_by Finish s core caller xs c n o = refl

-- ---- what runs
turns_by : (d : Deed) (s : State) (core caller : ℕ) (xs : List ℕ) → ((to : ℕ) → d ≡ HandOver to → ⊥) → (d ≡ Finish → ⊥) → (carried_in d s core caller xs).turns ≡ s.turns
turns_by Nothing s core caller xs h f = refl
turns_by (Move first count to) s core caller xs h f = refl
turns_by (Map m) s core caller xs h f = refl
turns_by (Unmap virt size) s core caller xs h f = refl
turns_by (Start k a x) s core caller xs h f = refl
turns_by GoOff s core caller xs h f = refl
turns_by (HandOver to) s core caller xs h f = absurd (h to refl)
turns_by Finish s core caller xs h f = absurd (f refl)

others_turns : (d : Deed) (s : State) (core caller : ℕ) (xs : List ℕ) (c : ℕ) → (c ≡ core → ⊥) → turn (carried_in d s core caller xs).turns c ≡ turn s.turns c
others_turns Nothing s core caller xs c n = refl
others_turns (Move first count to) s core caller xs c n = refl
others_turns (Map m) s core caller xs c n = refl
others_turns (Unmap virt size) s core caller xs c n = refl
others_turns (Start k a x) s core caller xs c n = refl
others_turns GoOff s core caller xs c n = refl
others_turns (HandOver to) s core caller xs c n = turn_other s.turns core (handed (turn s.turns core) to) c n
others_turns Finish s core caller xs c n = turn_other s.turns core (finished (turn s.turns core)) c n

module _ (s : State) (core : ℕ) (xs : List ℕ) where
  -- A granted mapping stands in the caller's list, which else is as it was.
  pub list_mapped : (m : Mapping) → deed_in s core xs ≡ Map m → acceptable s.site.window ≡ true → WholeLists s.lists → caller_of s core < 4
      → Inserted m (held s.lists (caller_of s core)) (held (after s core xs).lists (caller_of s core))
  unfolding called applied
  list_mapped m e ok w h =
      let g = rw e at (grounded (sight s core) xs).stands in
      let list = held s.lists (caller_of s core) in
      rw e (holding_inserts s.lists (caller_of s core) m w h
      (λ z. omega (arith, (granted_formed s.site.window ok list s.owners (caller_of s core) m g.verdict).some))
      (granted_room s.site.window ok list s.owners (caller_of s core) m g.verdict))

  -- The mapping that is given up is gone from it, and nothing else.
  pub list_unmapped : (virt size : ℕ) → deed_in s core xs ≡ Unmap virt size → WholeLists s.lists
      → Removed virt size (held s.lists (caller_of s core)) (held (after s core xs).lists (caller_of s core))
  unfolding called applied
  list_unmapped virt size e w =
      let g = rw e at (grounded (sight s core) xs).stands in
      rw (e, released_takes s.lists (caller_of s core) virt size w) (without_removes virt size (held s.lists (caller_of s core)) g.holds)

  -- No call changes the list of another world,
  pub lists_others : (u : ℕ) → (u ≡ caller_of s core → ⊥) → held (after s core xs).lists u ≡ held s.lists u
  unfolding called applied
  lists_others u n = others_lists (deed_in s core xs) (answered_at s core xs) core (caller_of s core) xs u n

  -- and only those two change the caller's.
  pub lists_spared : ((m : Mapping) → deed_in s core xs ≡ Map m → ⊥) → ((virt size : ℕ) → deed_in s core xs ≡ Unmap virt size → ⊥) → (after s core xs).lists ≡ s.lists
  unfolding called applied
  lists_spared m u = lists_by (deed_in s core xs) (answered_at s core xs) core (caller_of s core) xs m u

  -- A core that is started is pending, with the call's address and context.
  pub power_started : (c a x : ℕ) → deed_in s core xs ≡ Start c a x → WholePowers s.powers → s.site.cores ≤ most_cores → power (after s core xs).powers c ≡ power_of pending a x
  unfolding called applied
  power_started c a x e w h =
      let g = rw e at (grounded (sight s core) xs).stands in
      rw e (power_same s.powers c (started (power s.powers c) a x) w (omega (arith, g.exists)) ∙ started_off (power s.powers c) a x g.not_on g.not_pending)

  -- A core that goes OFF is OFF.
  pub power_off : deed_in s core xs ≡ GoOff → WholePowers s.powers → core < most_cores → is_on (power s.powers core) ≡ true → power (after s core xs).powers core ≡ put (power s.powers core) off
  unfolding called applied
  power_off e w h on = rw e (power_same s.powers core (gone_off (power s.powers core)) w h ∙ gone_off_on (power s.powers core) on)

  -- No other call changes a core's power.
  pub power_spared : (c : ℕ) → ((a x : ℕ) → deed_in s core xs ≡ Start c a x → ⊥) → (deed_in s core xs ≡ GoOff → c ≡ core → ⊥) → power (after s core xs).powers c ≡ power s.powers c
  unfolding called applied
  power_spared c n o = powers_by (deed_in s core xs) (answered_at s core xs) core (caller_of s core) xs c n o

  -- After a hand-over the receiver runs,
  pub handed_runs : (to : ℕ) → deed_in s core xs ≡ HandOver to → WholeTurns s.turns → core < most_cores → (turn (after s core xs).turns core).world ≡ to
  unfolding called applied
  handed_runs to e w h = rw e (ap (λ (t : Turn). t.world) (turn_same s.turns core (handed (turn s.turns core) to) w h))

  -- after a finish Normal,
  pub finished_runs : deed_in s core xs ≡ Finish → WholeTurns s.turns → core < most_cores → (turn (after s core xs).turns core).world ≡ normal
  unfolding called applied
  finished_runs e w h = rw e (ap (λ (t : Turn). t.world) (turn_same s.turns core (finished (turn s.turns core)) w h))

  -- and after any other call the same world on every core.
  pub turns_spared : ((to : ℕ) → deed_in s core xs ≡ HandOver to → ⊥) → (deed_in s core xs ≡ Finish → ⊥) → (after s core xs).turns ≡ s.turns
  unfolding called applied
  turns_spared h f = turns_by (deed_in s core xs) (answered_at s core xs) core (caller_of s core) xs h f

  -- No call changes what runs on another core.
  pub turns_others : (c : ℕ) → (c ≡ core → ⊥) → turn (after s core xs).turns c ≡ turn s.turns c
  unfolding called applied
  turns_others c n = others_turns (deed_in s core xs) (answered_at s core xs) core (caller_of s core) xs c n
