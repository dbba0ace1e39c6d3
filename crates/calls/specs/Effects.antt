-- What one step does to each table, and what it leaves: plain laws over any call and any arrival.
use Rattle.std.specs.Prelude.{◌≡◌, Bool, true, false, List, [], ◌∷◌, ℕ, ◌+◌, ◌-◌, ◌≤◌, ◌<◌, length, get_or, drop}
use Rattle.std.proofs.Math.Path.{refl, ap}
use Rattle.std.proofs.Common.{sym, subst, ◌∙◌, ⊎_elim, arith, length-take, length-drop, get_or-take, get_or-drop}
use Rattle.rules.specs.Choice.{pick_yes, pick_no, either}
use Rattle.rules.specs.declared.Reason.{Reason}
use Rattle.registers.specs.Registers.{Whole, saved, saving, saving_at_lem, saving_past, saving_other}
use Rattle.cores.specs.Power.{put, on, is_pending, arrived_pending, entered}
use Rattle.cores.specs.Cores.{WholePowers, WholeTurns, power, with_power, turn, with_turn, power_same, power_other, turn_same, turn_other}
use Rattle.cores.specs.declared.Turn.{Turn}
use Rattle.rules.specs.Sizes.{last_world, most_cores}
use Rattle.pages.specs.Owners.{WholeOwners, owner, given_outside}
use Rattle.ranges.specs.declared.Mapping.{Mapping}
use Rattle.transfers.specs.Granted.{Movable}
use Rattle.transfers.proofs.Granted.{transfer_granted, moved_from, moved_to}
use Rattle.mapping.specs.Lists.{WholeLists}
use Rattle.rules.specs.Sizes.{secure, normal, realm}
use Rattle.judgements.specs.Judge.{HandlerSight, called_by}
use Rattle.judgements.specs.Grounds.{Takes, Between, Moves}
use Rattle.judgements.proofs.Grounds.{Grounds, grounded}
use Rattle.judgements.specs.Grounds.Between.{to_caller, to_normal}
use Rattle.judgements.specs.declared.Answer.{Answer}
use Rattle.judgements.specs.declared.Answer.TheVariants.{No}
use Rattle.judgements.specs.declared.Deed.{Deed}
use Rattle.judgements.specs.declared.Deed.TheVariants.{Nothing, Move, Map, Unmap, Start, GoOff, HandOver, Finish}
use Rattle.rules.specs.Reasons.{minus}
use Rattle.answers.specs.Answers.{negative, written}
use Rattle.answers.specs.Laws.{answered_whole, answered_other, answered_listed, answered_unlisted, answered_past}
pub use Rattle.deeds.specs.Deeds.{returned}
pub use Rattle.deeds.specs.Laws.{returned_realm, returned_other}
use Rattle.deeds.specs.Deeds.{finish_numbers}
use Rattle.deeds.specs.Laws.{returned_few}
use Rattle.calls.specs.Step.{State, state, sight, caller_of, judged_in, carried_in, with_answer, applied, called, CoreTables, start_numbers, arrived_in, arrives}

-- ---- names for a step
-- what is done for a call
abbrev pub deed_in : State → ℕ → List ℕ → Deed
deed_in s core xs = (judged_in s core xs).deed

-- what a call is answered
abbrev pub answer_in : State → ℕ → List ℕ → Answer
answer_in s core xs = (judged_in s core xs).answer

-- the results that its answer writes
abbrev pub results_in : State → ℕ → List ℕ → List ℕ
results_in s core xs = written (called_by xs) (answer_in s core xs)

-- the state once the call is answered, before its deed is carried out
abbrev pub answered_at : State → ℕ → List ℕ → State
answered_at s core xs = with_answer (answer_in s core xs) s core (caller_of s core) xs

-- the state after a call
abbrev pub after : State → ℕ → List ℕ → State
after s core xs = (called s core xs).0

-- the state after an arrival
abbrev pub after_arrival : State → ℕ → State
after_arrival s core = (arrives s core).0

-- ---- the whole state after a call
-- A deed alone decides what becomes of each table.
pub stepped_by : (s : State) (core : ℕ) (xs : List ℕ) (d : Deed) → deed_in s core xs ≡ d → after s core xs ≡ carried_in d (answered_at s core xs) core (caller_of s core) xs
unfolding called applied
stepped_by s core xs d e = rw e

-- A refused call leaves every table but the caller's numbers: the frame's eight, and over them x0 alone, the refusal's number.
pub refused : (s : State) (core : ℕ) (xs : List ℕ) (r : Reason) → answer_in s core xs ≡ No r
    → after s core xs ≡ state s.site s.ledger s.owners
    (saving (saving s.saved core (caller_of s core) xs) core (caller_of s core) (negative (called_by xs) (minus r) ∷ []))
    s.powers s.turns s.lists
refused s core xs r e = stepped_by s core xs Nothing ((grounded (sight s core) xs).quiet r e) ∙ rw e

-- ---- saved numbers
-- the world, besides the caller's, whose numbers a deed writes
abbrev pub Receives : Deed → ℕ → Type 0
Receives Nothing u = ⊥
Receives (Move first count to) u = ⊥
Receives (Map m) u = ⊥
Receives (Unmap virt size) u = ⊥
Receives (Start c a x) u = ⊥
Receives GoOff u = ⊥
Receives (HandOver to) u = to ≡ u
Receives Finish u = normal ≡ u

deed_spares : (d : Deed) (s : State) (core caller : ℕ) (xs : List ℕ) (c u j : ℕ) → (core ≡ c → Receives d u → ⊥)
    → saved (carried_in d s core caller xs).saved c u j ≡ saved s.saved c u j
deed_spares Nothing s core caller xs c u j n = refl
deed_spares (Move first count to) s core caller xs c u j n = refl
deed_spares (Map m) s core caller xs c u j n = refl
deed_spares (Unmap virt size) s core caller xs c u j n = refl
deed_spares (Start k a x) s core caller xs c u j n = refl
deed_spares GoOff s core caller xs c u j n = refl
deed_spares (HandOver to) s core caller xs c u j n = saving_other s.saved core to xs c u j n
deed_spares Finish s core caller xs c u j n = saving_other s.saved core normal (finish_numbers caller xs) c u j n

-- no deed that has its grounds writes the caller's numbers
never_own : (v : HandlerSight) (d : Deed) → Grounds v d → Receives d v.caller.world → ⊥
never_own v Nothing g r = r
never_own v (Move first count to) g r = r
never_own v (Map m) g r = r
never_own v (Unmap virt size) g r = r
never_own v (Start c a x) g r = r
never_own v GoOff g r = r
never_own v (HandOver to) g r = ⊎_elim (λ (e : to ≡ secure). omega (arith, g.0)) (λ (e : to ≡ realm). omega (arith, g.0)) g.1
never_own v Finish g r = ⊎_elim (λ (e : v.caller.world ≡ secure). omega arith) (λ (e : v.caller.world ≡ realm). omega arith) g

module _ (s : State) (core : ℕ) (xs : List ℕ) where
  saved_is : (after s core xs).saved ≡ (carried_in (deed_in s core xs) (answered_at s core xs) core (caller_of s core) xs).saved
  unfolding called applied
  saved_is = refl

  -- A call leaves the numbers of every core and world but the caller's and, on its core, the receiver's.
  pub saved_spared : (c u j : ℕ) → (core ≡ c → caller_of s core ≡ u → ⊥) → (core ≡ c → Receives (deed_in s core xs) u → ⊥)
      → saved (after s core xs).saved c u j ≡ saved s.saved c u j
  saved_spared c u j n m =
      rw saved_is (deed_spares (deed_in s core xs) (answered_at s core xs) core (caller_of s core) xs c u j m
      ∙ answered_other s.saved core (caller_of s core) xs (answer_in s core xs) c u j n)

  -- The caller's numbers are the frame's, and over them the results: no deed writes them.
  own_numbers : (j : ℕ) → saved (after s core xs).saved core (caller_of s core) j ≡ saved (answered_at s core xs).saved core (caller_of s core) j
  own_numbers j =
      rw saved_is (deed_spares (deed_in s core xs) (answered_at s core xs) core (caller_of s core) xs core (caller_of s core) j
      (λ e. never_own (sight s core).inner (deed_in s core xs) (grounded (sight s core) xs).stands))

  -- What the answer lists stands in the caller's x0 and on.
  pub own_results : (j : ℕ) → Whole s.saved → core < most_cores → caller_of s core < 4 → j < length (results_in s core xs)
      → saved (after s core xs).saved core (caller_of s core) j ≡ get_or (results_in s core xs) j 0
  own_results j w h k l = own_numbers j ∙ answered_listed s.saved core (caller_of s core) xs (answer_in s core xs) j w h k l

  -- What it does not list keeps the frame's number.
  pub own_frame : (j : ℕ) → Whole s.saved → core < most_cores → caller_of s core < 4 → j < 9 → j < length xs → length (results_in s core xs) ≤ j
      → saved (after s core xs).saved core (caller_of s core) j ≡ get_or xs j 0
  own_frame j w h k l m n = own_numbers j ∙ answered_unlisted s.saved core (caller_of s core) xs (answer_in s core xs) j w h k l m n

  -- The caller's start address stays, as does every number past the frame's.
  pub own_past : (j : ℕ) → 3 ≤ j → length xs ≤ j → saved (after s core xs).saved core (caller_of s core) j ≡ saved s.saved core (caller_of s core) j
  own_past j h l = own_numbers j ∙ answered_past s.saved core (caller_of s core) xs (answer_in s core xs) j h l

  module _ (to : ℕ) (e : deed_in s core xs ≡ HandOver to) where
    pub hands : (caller_of s core ≡ normal) × Takes to
    hands = rw e at (grounded (sight s core) xs).stands

    -- A hand-over gives the receiver the frame's x0 to x7.
    pub handed_numbers : (j : ℕ) → Whole s.saved → core < most_cores → length xs ≡ 8 → j < 8 → saved (after s core xs).saved core to j ≡ get_or xs j 0
    handed_numbers j w h l k =
        let t : to < 4 = ⊎_elim (λ (y : to ≡ secure). omega arith) (λ (y : to ≡ realm). omega arith) hands.1 in
        rw (saved_is, e) (saving_at_lem (answered_at s core xs).saved core to xs j (answered_whole s.saved core (caller_of s core) xs (answer_in s core xs) w) h t (omega arith) (omega arith))

    -- The receiver's other numbers stay.
    pub handed_rest : (j : ℕ) → length xs ≤ j → saved (after s core xs).saved core to j ≡ saved s.saved core to j
    handed_rest j l =
        rw (saved_is, e) (saving_past (answered_at s core xs).saved core to xs j l
        ∙ answered_other s.saved core (caller_of s core) xs (answer_in s core xs) core to j
        (λ y z. ⊎_elim (λ (y : to ≡ secure). omega (arith, hands.0)) (λ (y : to ≡ realm). omega (arith, hands.0)) hands.1))

  module _ (e : deed_in s core xs ≡ Finish) where
    pub finishes : Takes (caller_of s core)
    finishes = rw e at (grounded (sight s core) xs).stands

    -- A finish gives Normal the finisher's x1 and on as its x0 and on.
    pub finished_numbers : (j : ℕ) → Whole s.saved → core < most_cores → length xs ≡ 8 → j < returned (caller_of s core) → saved (after s core xs).saved core normal j ≡ get_or xs (1 + j) 0
    finished_numbers j w h l k =
        let f = returned_few _ (caller_of s core) refl in
        let n : length (finish_numbers (caller_of s core) xs) ≡ returned (caller_of s core) = simp (length-take, length-drop) (omega arith) in
        rw (saved_is, e) (saving_at_lem (answered_at s core xs).saved core normal (finish_numbers (caller_of s core) xs) j
        (answered_whole s.saved core (caller_of s core) xs (answer_in s core xs) w) h (omega arith) (omega arith) (omega arith)
        ∙ get_or-take (returned (caller_of s core)) (drop 1 xs) j 0 k ∙ get_or-drop 1 xs j 0)

    -- Normal's other numbers stay.
    pub finished_rest : (j : ℕ) → returned (caller_of s core) ≤ j → saved (after s core xs).saved core normal j ≡ saved s.saved core normal j
    finished_rest j l =
        let n : length (finish_numbers (caller_of s core) xs) ≤ returned (caller_of s core) = simp (length-take, length-drop) (omega arith) in
        rw (saved_is, e) (saving_past (answered_at s core xs).saved core normal (finish_numbers (caller_of s core) xs) j (omega arith)
        ∙ answered_other s.saved core (caller_of s core) xs (answer_in s core xs) core normal j
        (λ y z. ⊎_elim (λ (k : caller_of s core ≡ secure). omega arith) (λ (k : caller_of s core ≡ realm). omega arith) finishes))

-- ---- owners
-- the deeds that change owners
abbrev pub Carries : Deed → Type 0
Carries Nothing = ⊥
Carries (Move first count to) = Unit {0}
Carries (Map m) = ⊥
Carries (Unmap virt size) = ⊥
Carries (Start k a x) = ⊥
Carries GoOff = ⊥
Carries (HandOver to) = ⊥
Carries Finish = ⊥

owners_by : (d : Deed) (s : State) (core caller : ℕ) (xs : List ℕ) → (Carries d → ⊥) → (carried_in d s core caller xs).owners ≡ s.owners
owners_by Nothing s core caller xs n = refl
owners_by (Move first count to) s core caller xs n = absurd (n tt)
owners_by (Map m) s core caller xs n = refl
owners_by (Unmap virt size) s core caller xs n = refl
owners_by (Start k a x) s core caller xs n = refl
owners_by GoOff s core caller xs n = refl
owners_by (HandOver to) s core caller xs n = refl
owners_by Finish s core caller xs n = refl

-- giver and taker are worlds
between_worlds : {v : HandlerSight} {from to : ℕ} {list : List Mapping} → Between v from to list → Takes v.caller.world → (from ≤ last_world) × (to ≤ last_world)
between_worlds {v} to_caller t = (omega arith, ⊎_elim (λ (y : v.caller.world ≡ secure). omega arith) (λ (y : v.caller.world ≡ realm). omega arith) t)
between_worlds {v} to_normal t = (⊎_elim (λ (y : v.caller.world ≡ secure). omega arith) (λ (y : v.caller.world ≡ realm). omega arith) t, omega arith)

module _ (s : State) (core : ℕ) (xs : List ℕ) where
  -- A call that is no granted transfer leaves every owner.
  pub owners_spared : (Carries (deed_in s core xs) → ⊥) → (after s core xs).owners ≡ s.owners
  unfolding called applied
  owners_spared n = owners_by (deed_in s core xs) (answered_at s core xs) core (caller_of s core) xs n

  module _ (first count to : ℕ) (e : deed_in s core xs ≡ Move first count to) where
    -- A transfer is granted between the caller and Normal, of pages that are the giver's and that the giver has not mapped.
    pub moves : Moves (sight s core).inner first count to
    moves = rw e at (grounded (sight s core) xs).stands

    movable : Movable s.site.window s.owners moves.list moves.from moves.start count first
    movable = (transfer_granted s.site.window s.owners moves.list moves.from moves.start count first moves.verdict).0

    -- Each page of the run was the giver's and is the taker's.
    pub moved_inside : (page : ℕ) → WholeOwners s.owners → first ≤ page → page < first + count
        → (owner s.owners page ≡ moves.from) × (owner (after s core xs).owners page ≡ to)
    unfolding called applied
    moved_inside page w h l = (
      moved_from s.site.window s.owners moves.list moves.from moves.start count first movable page h l,
      rw e (moved_to s.site.window s.owners moves.list moves.from moves.start count first movable page to w (between_worlds moves.between moves.caller).1 h l),
    )

    -- Every other page keeps its owner.
    pub moved_outside : (page : ℕ) → (first ≤ page → page < first + count → ⊥) → owner (after s core xs).owners page ≡ owner s.owners page
    unfolding called applied
    moved_outside page n = rw e (given_outside s.owners first count to page n)

-- ---- an arrival
-- the state with what an arrival leaves of the tables that it touches
abbrev with_cores : State → CoreTables × Bool → State × Bool
with_cores s a = (state s.site s.ledger s.owners a.0.saved a.0.powers a.0.turns s.lists, a.1)

-- the state once a pending core has come: ON, in Normal, with the numbers of its start
abbrev come_in : State → ℕ → State
come_in s core =
    state s.site s.ledger s.owners
    (saving s.saved core normal (start_numbers (power s.powers core)))
    (with_power s.powers core (put (power s.powers core) on))
    (with_turn s.turns core (entered (turn s.turns core)))
    s.lists

module _ (s : State) (core : ℕ) where
  -- Where the core is not pending, nothing changes.
  arrival_away : is_pending (power s.powers core) ≡ false → arrives s core ≡ (s, false)
  unfolding arrived_in
  arrival_away n = ap (with_cores s) (pick_no _ _ _ n)

  -- A pending core comes.
  arrival_comes : is_pending (power s.powers core) ≡ true → arrives s core ≡ (come_in s core, true)
  unfolding arrived_in
  arrival_comes y = ap (with_cores s) (pick_yes _ _ _ y) ∙ rw (arrived_pending (power s.powers core) y)

  -- what holds once the core has come holds after the arrival of a pending one
  arrived_by : (P : State → Type 0) → is_pending (power s.powers core) ≡ true → P (come_in s core) → P (after_arrival s core)
  arrived_by P y h = subst (λ (a : State × Bool). P a.0) (sym (arrival_comes y)) h

  -- what holds of the state before, and once the core has come, holds after an arrival
  pub arrival_by : (P : State → Type 0) → P s → (is_pending (power s.powers core) ≡ true → P (come_in s core)) → P (after_arrival s core)
  arrival_by P n y =
      either (is_pending (power s.powers core)) (λ e. arrived_by P e (y e)) (λ e. subst (λ (a : State × Bool). P a.0) (sym (arrival_away e)) n)

  -- An arrival leaves every number but those of Normal on its core.
  pub arrival_saved : (c u j : ℕ) → (core ≡ c → normal ≡ u → ⊥) → saved (after_arrival s core).saved c u j ≡ saved s.saved c u j
  arrival_saved c u j n =
      arrival_by (λ (q : State). saved q.saved c u j ≡ saved s.saved c u j) refl (λ y. saving_other s.saved core normal (start_numbers (power s.powers core)) c u j n)

  -- It leaves the power of every other core.
  pub arrival_powers : (c : ℕ) → (c ≡ core → ⊥) → power (after_arrival s core).powers c ≡ power s.powers c
  arrival_powers c n =
      arrival_by (λ (q : State). power q.powers c ≡ power s.powers c) refl (λ y. power_other s.powers core (put (power s.powers core) on) c n)

  -- And what runs there.
  pub arrival_turns : (c : ℕ) → (c ≡ core → ⊥) → turn (after_arrival s core).turns c ≡ turn s.turns c
  arrival_turns c n =
      arrival_by (λ (q : State). turn q.turns c ≡ turn s.turns c) refl (λ y. turn_other s.turns core (entered (turn s.turns core)) c n)

  module _ (y : is_pending (power s.powers core) ≡ true) (h : core < most_cores) where
    -- A core that arrives finds the context in x0, zero in x1 to x7, and then its start address.
    pub arrived_numbers : (j : ℕ) → Whole s.saved → j < 9 → saved (after_arrival s core).saved core normal j ≡ get_or (start_numbers (power s.powers core)) j 0
    arrived_numbers j w l =
        arrived_by (λ (q : State). saved q.saved core normal j ≡ get_or (start_numbers (power s.powers core)) j 0) y
        (saving_at_lem s.saved core normal (start_numbers (power s.powers core)) j w h (omega arith) l (omega arith))

    -- It is ON, in Normal.
    pub arrived_power : WholePowers s.powers → power (after_arrival s core).powers core ≡ put (power s.powers core) on
    arrived_power w =
        arrived_by (λ (q : State). power q.powers core ≡ put (power s.powers core) on) y (power_same s.powers core (put (power s.powers core) on) w h)

    pub arrived_runs : WholeTurns s.turns → (turn (after_arrival s core).turns core).world ≡ normal
    arrived_runs w =
        arrived_by (λ (q : State). (turn q.turns core).world ≡ normal) y (ap (λ (t : Turn). t.world) (turn_same s.turns core (entered (turn s.turns core)) w h))

-- ---- tables that have all their numbers
pub record WholeTables (s : State) : Type 0 where
  pub owners_whole : WholeOwners s.owners
  pub saved_whole : Whole s.saved
  pub powers_whole : WholePowers s.powers
  pub turns_whole : WholeTurns s.turns
  pub lists_whole : WholeLists s.lists
