-- One line: two machines that are alike stay so, and answer alike.
use Rattle.std.specs.Prelude.{◌≡◌, Bool, List, eqb, length, Result}
use Rattle.std.proofs.Math.Path.{refl, subst}
use Rattle.std.proofs.Common.{sym, arith}
use Prim.Native.Nat.{ℕ, ◌<◌}
use borrow.Author.Tests.{eqb-true, eqb-false, leb-false, not-false}
use Rattle.calls.specs.declared.Made.{Made}
use Rattle.rules.specs.Choice.{either, chosen_two}
use Rattle.rules.specs.Sizes.{normal, realm, most_cores}
use Rattle.registers.specs.Registers.{saved}
use Rattle.cores.specs.Cores.{power}
use Rattle.judgements.specs.Alike.{on_list_or, Level}
use Rattle.judgements.proofs.Quiet.{quiet}
use Rattle.judgements.specs.Asked.{key}
use Rattle.calls.specs.Step.{State, sight, caller_of, judged_in, applied, called, CoreTables, start_numbers, arrived_in}
use Rattle.calls.specs.Effects.{after}
use Rattle.calls.specs.Right.{Right, is_world}
use Rattle.calls.specs.Beside as Beside
use Rattle.calls.specs.Beside.{Beside, SameNumbers, SameMappings, same_saving, own_applied, called_both, running_both}
use Rattle.parsing.specs.declared.Status.{Status}
use Rattle.parsing.specs.declared.Status.TheVariants.{Accepted}
use Rattle.parsing.specs.declared.Frame.{Frame}
use Rattle.parsing.specs.declared.Frame.TheVariants as Frame
use Rattle.setup.specs.Table.{ready, ended, cores, over}
use Rattle.setup.specs.Statuses.{ruled_by, ruled_two}
use Rattle.showing.specs.Showing.{shown_alike}
use Rattle.calling.specs.Calling.{trying, shown_in, replied, calling}
use Rattle.arriving.specs.Arriving.{arriving}
use Rattle.frames.specs.Frames.{Machine, state_of, framed, with_state, with_core_tables}
use Rattle.guarantees.specs.Runs.{Event, next, reply, Taken}
use Rattle.guarantees.specs.Fit.{Fit}
use Rattle.guarantees.specs.Accepted as Call
use Rattle.guarantees.specs.Statements.{running, number}
use Rattle.unseen.specs.Statements.{Alike, OnItsList, OwnCall, GivesPages, Evenly, Eight}
use Rattle.unseen.specs.Steps.{alike_same, alike_sym, alike_trans, aside, call_taken, done_zero, machine_of, refused_not}

alike_by : (s s' n : List ℕ) (w v : State) → s ≡ s' → Beside w v → Alike (machine_of s n w) (machine_of s' n v)
alike_by s s' n w v e b =
    record {
      setup = e;
      named = refl;
      ledger = b.ledger;
      owners = b.owners;
      powers = b.powers;
      turns = b.turns;
      numbers = b.numbers;
      places = λ world i d. b.mappings world d i;
    }

-- ---- a call of Realm's on its own mappings
module _ (m : Machine) (core : ℕ) (xs : List ℕ) (fit : Fit m) (by_realm : running m core ≡ realm) (asks : OnItsList xs) where
  -- set-up has ended by then, since until it has every core runs Normal
  over_before : core < most_cores → over m.setup ≡ m.setup
  over_before h = either (ended m.setup) fit.settled (λ n. absurd (omega (arith, by_realm, fit.home n core h)))

  own_state : Beside (after (state_of m) core xs) (state_of m)
  unfolding called
  own_state =
      subst (λ (c : ℕ). Beside (applied (state_of m) core c xs (judged_in (state_of m) core xs)) (state_of m)) (sym by_realm)
      (own_applied (state_of m) core xs (judged_in (state_of m) core xs) (quiet (sight (state_of m) core) xs asks by_realm))

  pub own_call : Alike (framed m (Frame.Call core) xs).0 m
  unfolding framed calling trying
  own_call =
      ruled_by (λ (o : (List ℕ × State) × Result Made Status). Alike (with_state m (o.0, replied core o.0.1 o.1)).0 m) _ _ _ _ _
      (λ why d. alike_same m)
      (λ a b c.
      let r = fit.right (not-false (ready m.setup) a) in
      let h : core < most_cores = omega (arith, leb-false (cores m.setup) core b, r.few_cores) in
      alike_by (over m.setup) m.setup m.named (after (state_of m) core xs) (state_of m) (over_before h) own_state)

pub own_kept : (m : Machine) (e : Event) → Fit m → OwnCall m e → Alike (next m e) m
own_kept m e fit o = subst (λ (f : Frame). Alike (framed m f e.1).0 m) (sym o.is_call) (own_call m o.core e.1 fit o.by_realm o.asks)

aside_alike : (n : Machine) (r k : List ℕ) → SameNumbers r n.saved → SameMappings k n.lists → Alike (aside n r k) n
aside_alike n r k numbers mappings =
    record { setup = refl; named = refl; ledger = refl; owners = refl; powers = refl; turns = refl; numbers = numbers; places = λ world i d. mappings world d i }

module _ (n : Machine) (r k : List ℕ) (numbers : SameNumbers r n.saved) (mappings : SameMappings k n.lists) (fit-other : Fit (aside n r k)) (fit : Fit n) where
  abbrev other : Machine
  other = aside n r k

  alike : Alike other n
  alike = aside_alike n r k numbers mappings

  -- a call that is judged alike
  module _ (core : ℕ) (xs : List ℕ) (ro : Right (state_of other)) (rn : Right (state_of n)) (h : core < most_cores) (same : judged_in (state_of other) core xs ≡ judged_in (state_of n) core xs) where
    after_both : Beside (after (state_of other) core xs) (after (state_of n) core xs)
    after_both =
        called_both (state_of n) r k core xs mappings ro.whole.saved_whole rn.whole.saved_whole ro.whole.lists_whole rn.whole.lists_whole numbers same

    shows_both : length xs ≡ 8 → shown_in core (after (state_of other) core xs) ≡ shown_in core (after (state_of n) core xs)
    shows_both l =
        shown_alike core _ _ _ _ _ _ after_both.powers after_both.turns
        (λ j i. running_both (state_of n) r k core xs mappings ro.whole.saved_whole rn.whole.saved_whole ro.whole.lists_whole rn.whole.lists_whole numbers same l h
        (is_world (caller_of (state_of n) core) (rn.running core h).world) rn.whole.turns_whole j (omega arith))
        (λ j i. after_both.numbers core normal j (λ e. omega arith))

  -- a call, whether it is accepted or not
  call_both : (core : ℕ) (xs : List ℕ)
      → (Taken (framed other (Frame.Call core) xs).1 → Taken (framed n (Frame.Call core) xs).1 → judged_in (state_of other) core xs ≡ judged_in (state_of n) core xs)
      → Alike (framed other (Frame.Call core) xs).0 (framed n (Frame.Call core) xs).0
      × (length xs ≡ 8 → (framed other (Frame.Call core) xs).1 ≡ (framed n (Frame.Call core) xs).1)
  unfolding framed calling trying
  call_both core xs same =
      ruled_two (λ (o u : (List ℕ × State) × Result Made Status).
      Alike (with_state other (o.0, replied core o.0.1 o.1)).0 (with_state n (u.0, replied core u.0.1 u.1)).0
      × (length xs ≡ 8 → replied core o.0.1 o.1 ≡ replied core u.0.1 u.1)) _ _ _ _ _ _ _
      (λ why. (alike, λ l. refl))
      (λ a b c.
      let y = not-false (ready n.setup) a in
      let ro = fit-other.right y in
      let rn = fit.right y in
      let h : core < most_cores = omega (arith, leb-false (cores n.setup) core b, rn.few_cores) in
      let j = same (call_taken other core xs a b c) (call_taken n core xs a b c) in (
        alike_by (over n.setup) (over n.setup) n.named (after (state_of other) core xs) (after (state_of n) core xs) refl (after_both core xs ro rn h j),
        shows_both core xs ro rn h j,
      ))

  -- an arrival writes Normal's numbers alone
  arrival_both : (core : ℕ) (xs : List ℕ)
      → Alike (framed other (Frame.Arrival core) xs).0 (framed n (Frame.Arrival core) xs).0 × ((framed other (Frame.Arrival core) xs).1 ≡ (framed n (Frame.Arrival core) xs).1)
  unfolding framed arriving arrived_in
  arrival_both core xs =
      ruled_two (λ (o u : CoreTables × Status). Alike (with_core_tables other o).0 (with_core_tables n u).0 × ((with_core_tables other o).1 ≡ (with_core_tables n u).1)) _ _ _ _ _ _ _
      (λ why. (alike, refl))
      (λ a b c.
      let y = not-false (ready n.setup) a in (
        chosen_two (λ (o u : CoreTables × Bool). Alike (with_core_tables other (o.0, Accepted)).0 (with_core_tables n (u.0, Accepted)).0) _ _ _ _ _
            (λ p. aside_alike (with_core_tables n (_, Accepted)).0 _ k
            (same_saving r n.saved (fit-other.right y).whole.saved_whole (fit.right y).whole.saved_whole numbers core normal (start_numbers (power n.powers core))) mappings)
            (λ p. alike),
        refl,
      ))

  module _ (e : Event) (even : Evenly other n e) where
    abbrev Kept : Frame → Type 0
    Kept f = Alike (framed other f e.1).0 (framed n f e.1).0 × ((OwnCall other e → ⊥) → Eight e → (framed other f e.1).1 ≡ (framed n f e.1).1)

    judged_both : (core : ℕ) → e.0 ≡ Frame.Call core → running n core ≡ realm → GivesPages e.1 → Taken (reply other e) → Taken (reply n e)
        → Level (judged_in (state_of other) core e.1) (judged_in (state_of n) core e.1)
    judged_both core is by g to tn =
        let p = even core is to by g in (
          λ q d f. refused_not n fit e core is tn by q f (p.0 (done_zero other fit-other e core is to by d)),
          λ q d f. refused_not other fit-other e core is to by q f (p.1 (done_zero n fit e core is tn by d)),
        )

    any_call : (core : ℕ) → e.0 ≡ Frame.Call core → Kept (Frame.Call core)
    any_call core is =
        either (eqb (running n core) realm)
        (λ y. let by = eqb-true (running n core) realm y in
        on_list_or (key e.1)
        (λ on. (
          alike_trans (own_call other core e.1 fit-other by on) (alike_trans alike (alike_sym (own_call n core e.1 fit by on))),
          λ o l. absurd (o (record { core = core; is_call = is; by_realm = by; asks = on })),
        ))
        (λ off. told core is (λ to tn. Beside.judged_realm (state_of n) r k core e.1 mappings off (λ g. judged_both core is by g (rw is to) (rw is tn)))))
        (λ d. told core is (λ to tn. Beside.judged_other (state_of n) r k core e.1 mappings (eqb-false (running n core) realm d)))
      where
        told : (core : ℕ) → e.0 ≡ Frame.Call core
            → (Taken (framed other (Frame.Call core) e.1).1 → Taken (framed n (Frame.Call core) e.1).1 → judged_in (state_of other) core e.1 ≡ judged_in (state_of n) core e.1)
            → Kept (Frame.Call core)
        told core is same = let h = call_both core e.1 same in (h.0, λ o l. h.1 (l core is))

    any_frame : (f : Frame) → e.0 ≡ f → Kept f
    unfolding framed
    any_frame (Frame.Site base pages count) is = (aside_alike (framed n (Frame.Site base pages count) e.1).0 r k numbers mappings, λ o l. refl)
    any_frame (Frame.Entry lowest last kind number) is = (aside_alike (framed n (Frame.Entry lowest last kind number) e.1).0 r k numbers mappings, λ o l. refl)
    any_frame (Frame.Name lowest count to) is = (aside_alike (framed n (Frame.Name lowest count to) e.1).0 r k numbers mappings, λ o l. refl)
    any_frame (Frame.Call core) is = any_call core is
    any_frame (Frame.Arrival core) is = let h = arrival_both core e.1 in (h.0, λ o l. h.1)
    any_frame (Frame.Refused why) is = (alike, λ o l. refl)

-- A line of both leaves two machines that are alike so, and is answered alike unless it is a call of Realm's on its own mappings.
pub line_kept : (m n : Machine) (e : Event) → Alike m n → Fit m → Fit n → Evenly m n e → Alike (next m e) (next n e) × ((OwnCall m e → ⊥) → Eight e → reply m e ≡ reply n e)
line_kept m n e a fm fn =
    subst (λ (o : Machine). Fit o → Evenly o n e → Alike (next o e) (next n e) × ((OwnCall o e → ⊥) → Eight e → reply o e ≡ reply n e)) (sym is_aside)
    (λ fo even. any_frame n m.saved m.lists a.numbers (λ world d i. a.places world i d) fo fn e even e.0 refl) fm
  where
    is_aside : m ≡ aside n m.saved m.lists
    is_aside =
        λ i. record { setup = a.setup i; named = a.named i; ledger = a.ledger i; owners = a.owners i; saved = m.saved; powers = a.powers i; turns = a.turns i; lists = m.lists }
