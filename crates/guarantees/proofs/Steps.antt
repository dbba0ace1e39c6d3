-- One line: why it leaves what it leaves.
use Rattle.std.proofs.Math.Path.{◌≡◌, refl, sym, ap}
use Rattle.std.proofs.Common.{◌∙◌}
use Rattle.std.specs.Prelude.{Bool, true, false, List, [], ◌∷◌, ℕ, ◌%◌, ◌^◌, ◌<◌, leb, eqb, length, None}
use native.Mathlib.Omega.{arith}
use Rattle.std.proofs.Math.ListN.{get_or, drop}
use borrow.Author.Tests.{leb-true, leb-false, eqb-true, eq-eqb, ne_eqb}
use Rattle.rules.specs.Choice.{pick_yes, pick_no, chosen, either}
use Rattle.rules.specs.Reasons.{minus}
use Rattle.rules.specs.declared.Reason.{Reason}
use Rattle.rules.specs.declared.Reason.TheVariants as Reason
use Rattle.identifiers.specs.Identifier.{bits, identifier_of, parts, admitted, argument}
use Rattle.ledger.specs.Ledger.{handler}
use Rattle.registers.specs.Registers.{Whole, saved, shown_of}
use Rattle.cores.specs.Power.{on, is_pending}
use Rattle.cores.specs.Cores.{power}
use Rattle.ranges.specs.declared.Mapping.{Mapping}
use Rattle.mapping.specs.Lists.{held}
use Rattle.mapping.specs.Entries.{Every, every_of, every_among}
use Rattle.mapping.specs.Sound.{Formed}
use Rattle.mapping.proofs.Sound.{granted_formed}
use Rattle.mapping.proofs.Granted.{granted_mappable, mappable_granted, overlap_refused}
use Rattle.rules.specs.Sizes.{secure, normal, most_cores}
use Rattle.judgements.specs.Judge.{called_by, args_of, found, wanted}
use Rattle.judgements.specs.Asked.{judged_reserved}
use Rattle.judgements.proofs.Asked.{called_for, leads_asked}
use Rattle.judgements.proofs.Decided.{asked_map, asked_unmap, asked_start, asked_off, asked_hand_over, asked_finish, asked_where, asked_count, asked_version, asked_power_version, asked_features, asked_power_features, asked_unknown_call, asked_barred}
use Rattle.judgements.proofs.Granted.{asked_moved, asked_mapped, asked_unmappable, asked_led}
use Rattle.judgements.specs.Hint.{hint_idle, hint_width, fast_key, yielding_key}
use Rattle.judgements.proofs.Hint.{asked_known, asked_unknown}
use Rattle.judgements.proofs.Grounds.{grounded}
use Rattle.judgements.specs.declared.Answer.{Answer}
use Rattle.judgements.specs.declared.Answer.TheVariants as Answer
use Rattle.judgements.specs.declared.Answer.TheVariants.{No}
use Rattle.judgements.specs.declared.Deed.{Deed}
use Rattle.judgements.specs.declared.Deed.TheVariants.{Map, Unmap, Start, GoOff, HandOver, Finish}
use Rattle.judgements.specs.declared.Judged.{Judged}
use Rattle.answers.specs.Answers.{written}
use Rattle.answers.specs.Laws.{written_width, negative_short, negative_long}
use Rattle.calls.specs.Step.{State, sight, caller_of, arrived_in}
use Rattle.calls.specs.Effects as Effects
use Rattle.calls.specs.Effects.{deed_in, answer_in, results_in, Receives, returned, returned_realm, returned_other}
use Rattle.calls.specs.Left as Left
use Rattle.parsing.specs.declared.Status.TheVariants.{Accepted}
use Rattle.parsing.specs.declared.Frame.{Frame}
use Rattle.parsing.specs.declared.Frame.TheVariants as Frame
use Rattle.setup.specs.Table.{ready, ended, cores, over}
use Rattle.showing.specs.Showing.{shown_on}
use Rattle.calling.specs.Calling.{performed, shown_in}
use Rattle.frames.specs.Frames.{Machine, machine, framed, state_of, core_tables_of, with_core_tables}
use Rattle.frames.specs.Stays.{framed_by, shown_not_told, refused_same, told_goes_on, call_ends}
use Rattle.showing.specs.declared.Reply.{Reply}
use Rattle.showing.specs.declared.Reply.TheVariants.{Told, Called}
use Rattle.guarantees.specs.Runs.{Event, byte, next, reply, Taken}
use Rattle.guarantees.specs.Fit.{Fit}
use Rattle.guarantees.specs.Entries.{reaches}
use Rattle.guarantees.specs.Accepted.{partly, performs, right, inside, may, calling, saved_are, owners_are, powers_are, turns_are, lists_are, done_told, told_done, transfer_moves, moves_granted}
use Rattle.guarantees.specs.Counted.{on_counted}
use Rattle.guarantees.specs.Met.{had, movable, startable}
use Rattle.guarantees.specs.Statements.{running, caller, arg, HandsOver, GivesBack, SwitchesOff, power_known, denied, HeededCall, HeededArrival, HeededOther, Heeded}
use Rattle.guarantees.specs.Steps.{affirms, carries, denies, finisher, powers_plain, received, start_zeros}

-- a fast identifier with one of bits 23 to 17 set does not pass the test
reserved_fails : (xs : List ℕ) → bits 31 31 (get_or xs 0 0) ≡ 1 → (bits 23 17 (get_or xs 0 0) ≡ 0 → ⊥) → admitted (called_by xs) ≡ false
unfolding admitted parts identifier_of
reserved_fails xs fast some =
    let n = get_or xs 0 0 in
    let f : bits 31 31 (n % 2 ^ 32) ≡ 1 = omega arith in
    let g : bits 23 17 (n % 2 ^ 32) ≡ 0 → ⊥ = λ z. some (omega arith) in
    pick_yes _ _ _ (eq-eqb _ 1 f) ∙ ne_eqb _ 0 g

-- any other passes it
passing : (xs : List ℕ) → (bits 31 31 (get_or xs 0 0) ≡ 1 → bits 23 17 (get_or xs 0 0) ≡ 0) → admitted (called_by xs) ≡ true
unfolding admitted parts identifier_of
passing xs none =
    let n = get_or xs 0 0 in
    chosen (λ (b : Bool). b ≡ true) (eqb (bits 31 31 (n % 2 ^ 32)) 1) _ true
    (λ y. let f : bits 31 31 (n % 2 ^ 32) ≡ 1 = eqb-true _ _ y in let z = none (omega arith) in let g : bits 23 17 (n % 2 ^ 32) ≡ 0 = omega arith in eq-eqb _ 0 g)
    (λ y. refl)

-- the low half of x0 has these bits of x0
module _ (xs : List ℕ) where
  type_low : (called_by xs).fast ≡ bits 31 31 (get_or xs 0 0)
  unfolding parts identifier_of
  type_low = let n = get_or xs 0 0 in let e : bits 31 31 (n % 2 ^ 32) ≡ bits 31 31 n = omega arith in e

  width_low : (called_by xs).wide ≡ bits 30 30 (get_or xs 0 0)
  unfolding parts identifier_of
  width_low = let n = get_or xs 0 0 in let e : bits 30 30 (n % 2 ^ 32) ≡ bits 30 30 n = omega arith in e

  owner_low : (called_by xs).owner ≡ bits 29 24 (get_or xs 0 0)
  unfolding parts identifier_of
  owner_low = let n = get_or xs 0 0 in let e : bits 29 24 (n % 2 ^ 32) ≡ bits 29 24 n = omega arith in e

  long : bits 30 30 (get_or xs 0 0) ≡ 1 → (called_by xs).wide ≡ 0 → ⊥
  long b z = let w = width_low in omega arith

  -- an argument as it is read
  half : (i : ℕ) → bits 30 30 (get_or xs 0 0) ≡ 0 → argument (called_by xs) (get_or xs i 0) ≡ get_or xs i 0 % 4294967296
  unfolding argument
  half i b = pick_yes _ _ _ (eq-eqb _ 0 (width_low ∙ b))

  full : (i : ℕ) → bits 30 30 (get_or xs 0 0) ≡ 1 → argument (called_by xs) (get_or xs i 0) ≡ get_or xs i 0
  unfolding argument
  full i b = pick_no _ _ _ (ne_eqb _ 0 (long b))

-- ---- a call that is accepted
module _ (m : Machine) (fit : Fit m) (e : Event) (core : ℕ) (is : e.0 ≡ Frame.Call core) (t : Taken (reply m e)) where
  abbrev s : State
  s = state_of m

  abbrev xs : List ℕ
  xs = e.1

  abbrev deed : Deed
  deed = deed_in s core xs

  -- ---- what is done, and what was asked for
  pub hands : (to : ℕ) → HandsOver m core xs to → deed ≡ HandOver to
  hands to a = asked_hand_over (sight s core) xs (may m fit e core is t) to a.0 a.1

  pub hands_asked : (to : ℕ) → deed ≡ HandOver to → HandsOver m core xs to
  hands_asked to d =
      let r = called_for (sight s core) xs (HandOver to) (λ k. let z : ◌≡◌ {A = ℕ} 0 1 = cc in omega arith) d in
      ((Effects.hands s core xs to d).0, partly r (λ h k. k.0))

  pub gives_back : GivesBack m core xs → deed ≡ Finish
  gives_back a = asked_finish (sight s core) xs (may m fit e core is t) a

  pub gives_back_asked : deed ≡ Finish → GivesBack m core xs
  gives_back_asked d =
      let r = called_for (sight s core) xs Finish (λ k. let z : ◌≡◌ {A = ℕ} 0 1 = cc in omega arith) d in
      partly r (λ h k. k.0)

  pub goes_off : SwitchesOff m core xs → deed ≡ GoOff
  goes_off a = asked_off (sight s core) xs (may m fit e core is t) a.0 a.1

  pub off_asked : deed ≡ GoOff → SwitchesOff m core xs
  off_asked d =
      let r = called_for (sight s core) xs GoOff (λ k. let z : ◌≡◌ {A = ℕ} 0 1 = cc in omega arith) d in
      (rw d at (grounded (sight s core) xs).stands, partly r (λ h k. k.0))

  -- ---- what is left
  whole : Whole m.saved
  whole = (right m fit e core is t).whole.saved_whole

  spares : (c w j : ℕ) → (core ≡ c → caller m core xs ≡ w → ⊥) → (core ≡ c → Receives deed w → ⊥) → saved (next m e).saved c w j ≡ saved m.saved c w j
  spares c w j n k = rw (saved_are m fit e core is t) (Effects.saved_spared s core xs c w j n k)

  refuses : (r : Reason) → answer_in s core xs ≡ No r → next m e ≡ denied m core xs (minus r)
  unfolding performed
  refuses r a =
      ap (λ (o : Machine × Reply). o.0) (performs m fit e core is t).is
      ∙ ap (λ (s : State). record { setup = over m.setup; named = m.named; ledger = s.ledger; owners = s.owners; saved = s.saved; powers = s.powers; turns = s.turns; lists = s.lists })
      (Effects.refused s core xs r a)

  -- a call that no handler judges, whether or not it passes the test on bits 23 to 17
  nobody_answers : handler m.ledger (called_by xs).fast (called_by xs).owner ≡ None → answer_in s core xs ≡ No Reason.Unserved
  unfolding found
  nobody_answers n =
      either (admitted (called_by xs))
      (λ y. ap (λ (j : Judged). j.answer) (reaches s core xs ((right m fit e core is t).running core (inside m fit e core is t)).world y) ∙ rw n)
      (λ y. ap (λ (j : Judged). j.answer) (judged_reserved (sight s core) xs y))

  shows : reply m e ≡ shown_in core (state_of (next m e))
  unfolding performed
  shows =
      ap (λ (o : Machine × Reply). o.1) (performs m fit e core is t).is
      ∙ sym (ap (λ (o : Machine × Reply). shown_in core (state_of o.0)) (performs m fit e core is t).is)

  ends : ended (next m e).setup ≡ true
  ends = by_reply (reply m e) refl
    where
      by_reply : (r : Reply) → reply m e ≡ r → ended (next m e).setup ≡ true
      by_reply (Told why) k = absurd (t why k)
      by_reply (Called core world x) k = call_ends m e.0 e.1 core world x k

  back_runs : GivesBack m core xs → running (next m e) core ≡ normal
  back_runs a =
      rw (turns_are m fit e core is t, running) (Left.finished_runs s core xs (gives_back a) (right m fit e core is t).whole.turns_whole (inside m fit e core is t))

  -- Secure returns four numbers
  four : caller_of s core ≡ secure → returned (caller_of s core) ≡ 4
  four y = returned_other (caller_of s core) (λ z. omega arith)

  -- a mapping that is made has some size
  some_size : (n : Mapping) → deed ≡ Map n → n.size ≡ 0 → ⊥
  some_size n d z =
      let g = rw d at (grounded (sight s core) xs).stands in
      omega (arith, (granted_formed s.site.window (right m fit e core is t).window (held s.lists (caller_of s core)) s.owners (caller_of s core) n g.verdict).some)

  -- the caller's mappings have some size
  sizes : Every (λ (n : Mapping). 0 < n.size) (held s.lists (caller_of s core))
  sizes =
      every_of (λ (n : Mapping). 0 < n.size) (held s.lists (caller_of s core))
      (λ n i. (every_among (Formed s.site.window) (held s.lists (caller_of s core)) n ((right m fit e core is t).sound (caller_of s core)).formed i).some)

  -- what an answer of one number leaves in x0
  tells : (a : Answer) {n : ℕ} → written (called_by xs) a ≡ n ∷ [] → answer_in s core xs ≡ a → saved (next m e).saved core (caller m core xs) 0 ≡ n
  tells a {n} w b =
      let r : results_in s core xs ≡ n ∷ [] = rw (b, w) in
      rw (saved_are m fit e core is t) (Effects.own_results s core xs 0 whole (inside m fit e core is t) (calling m fit e core is t) (rw r (omega arith)) ∙ rw r)

  pub call_heeded : length xs ≡ 8 → HeededCall m core xs (next m e) (reply m e)
  unfolding shown_on shown_of args_of
  call_heeded l =
      let r = right m fit e core is t in
      let i = inside m fit e core is t in
      let c = calling m fit e core is t in
      let numbers = saved_are m fit e core is t in
      record {
        exists = (performs m fit e core is t).exists;
        was_on = (performs m fit e core is t).on;
        shown_if_on = λ y. shows ∙ pick_yes _ _ _ y;
        shown_off = λ n. shows ∙ pick_no _ _ _ n;
        set_up_ends = ends;
        reserved = λ fast some. refuses Reason.Unserved (ap (λ (j : Judged). j.answer) (judged_reserved (sight s core) xs (reserved_fails xs fast some)));
        passes = passing xs;
        type_read = type_low xs;
        width_read = width_low xs;
        owner_read = owner_low xs;
        half_read = λ k b. half xs k b;
        all_read = λ k b. full xs k b;
        named_fast = λ f. fast_key xs f;
        named_yielding = λ y. yielding_key xs y;
        hint_idle = λ y0 f h.
            let j = hint_idle (sight s core) xs y0 f h in
            (j, written_width (called_by xs) (called_by (y0 ∷ drop 1 xs)) (hint_width xs y0 h) (answer_in s core xs) ∙ ap (λ (j : Judged). written (called_by (y0 ∷ drop 1 xs)) j.answer) j);
        version_told = λ a. tells Answer.Version refl (asked_version (sight s core) xs (may m fit e core is t) a);
        power_version_told = λ n a. tells Answer.PowerVersion refl (asked_power_version (sight s core) xs (may m fit e core is t) n a);
        features_known = λ a k. tells Answer.Done refl (asked_features (sight s core) xs (may m fit e core is t) a ∙ affirms _ (asked_known xs _ ((refl, refl), ((refl, refl), tt)) k));
        features_unknown = λ a d. refuses Reason.Unserved (asked_features (sight s core) xs (may m fit e core is t) a ∙ denies _ (asked_unknown xs _ d));
        power_features_known = λ n a k. tells Answer.Done refl (asked_power_features (sight s core) xs (may m fit e core is t) n a ∙ affirms _ (asked_known xs power_known powers_plain k));
        power_features_unknown = λ n a d. refuses Reason.Unserved (asked_power_features (sight s core) xs (may m fit e core is t) n a ∙ denies _ (asked_unknown xs power_known d));
        dispatched = λ ok. reaches s core xs (r.running core i).world ok;
        unserved = λ n. refuses Reason.Unserved (nobody_answers n);
        unknown = λ a. refuses Reason.Unserved (ap (λ (j : Judged). j.answer) (asked_unknown_call (sight s core) xs (may m fit e core is t) a));
        barred = λ a. refuses Reason.Unserved (ap (λ (j : Judged). j.answer) (asked_barred (sight s core) xs (may m fit e core is t) a));
        refused = refuses;
        refused_short = λ n b. negative_short (called_by xs) n (width_low xs ∙ b);
        refused_long = λ n b. negative_long (called_by xs) n (long xs b);
        results = λ j h. rw numbers (Effects.own_results s core xs j whole i c h);
        unlisted = λ j h k. rw numbers (Effects.own_frame s core xs j whole i c (omega arith) (omega arith) h);
        start_stays = rw numbers (Effects.own_past s core xs 8 (omega arith) (omega arith));
        hand_over_silent = λ to j a h.
            rw numbers (Left.silent_frame s core xs whole i c l j h (called_for (sight s core) xs (HandOver to) (λ k. let z : ◌≡◌ {A = ℕ} 0 1 = cc in omega arith) (hands to a)).so.1);
        finish_silent = λ j a h.
            rw numbers (Left.silent_frame s core xs whole i c l j h (called_for (sight s core) xs Finish (λ k. let z : ◌≡◌ {A = ℕ} 0 1 = cc in omega arith) (gives_back a)).so.1);
        off_silent = λ j a h.
            rw numbers (Left.silent_frame s core xs whole i c l j h (called_for (sight s core) xs GoOff (λ k. let z : ◌≡◌ {A = ℕ} 0 1 = cc in omega arith) (goes_off a)).so.1);
        not_written = λ j low h n.
            rw numbers (either (leb 3 j) (λ y. Left.past_frame s core xs whole i c l j h (leb-true 3 j y))
            (λ y. Left.rest_frame s core xs whole i c l j h low (λ phys attr a.
            n (leads_asked (sight s core) xs phys attr a) (rw numbers (Left.leads_zero s core xs whole i c phys attr a)) (omega (arith, leb-false 3 j y)))));
        where_told = λ a z. Left.zero_leads s core xs whole i c _ (asked_where (sight s core) xs a) (rw numbers at z) ∙ rw numbers;
        where_granted = λ phys attr a d. rw numbers (Left.leads_zero s core xs whole i c phys attr (asked_led (sight s core) xs (may m fit e core is t) a phys attr d));
        count_told = λ a.
            let b = asked_count (sight s core) xs (may m fit e core is t) a in
            rw numbers (Effects.own_results s core xs 0 whole i c (rw b (omega arith)) ∙ rw b (on_counted m));
        other_cores = λ c w j n. spares c w j (λ k. absurd (n k)) (λ k. absurd (n k));
        other_turns = λ c n. rw (turns_are m fit e core is t) (Left.turns_others s core xs c n);
        other_worlds = λ w j n h f. spares core w j (λ k. n) (λ k. received deed w (λ to d. h to (hands_asked to d)) (λ d. f (gives_back_asked d)));
        same_runs = λ h f. turns_are m fit e core is t ∙ Left.turns_spared s core xs (λ to d. h to (hands_asked to d)) (λ d. f (gives_back_asked d));
        handed_runs = λ to a. rw (turns_are m fit e core is t, running) (Left.handed_runs s core xs to (hands to a) r.whole.turns_whole i);
        handed = λ to j a h. rw numbers (Effects.handed_numbers s core xs to (hands to a) j whole i l h);
        handed_rest = λ to j a h. rw numbers (Effects.handed_rest s core xs to (hands to a) j (omega arith));
        handed_others = λ to w j a n k. spares core w j (λ q. n) (λ q (u : Receives deed w). k (rw (hands to a) at u));
        finish_open = λ n a k. finisher a.so (sym (ap (λ (q : Machine). running q core) k) ∙ back_runs a);
        finished_runs = back_runs;
        finished_by = λ a. Effects.finishes s core xs (gives_back a);
        finished_secure = λ j a y h. rw numbers (Effects.finished_numbers s core xs (gives_back a) j whole i l (omega (arith, four y)));
        rest_secure = λ j a y h. rw numbers (Effects.finished_rest s core xs (gives_back a) j (omega (arith, four y)));
        finished_realm = λ j a y h. rw numbers (Effects.finished_numbers s core xs (gives_back a) j whole i l (omega (arith, returned_realm _ y)));
        rest_realm = λ j a y h. rw numbers (Effects.finished_rest s core xs (gives_back a) j (omega (arith, returned_realm _ y)));
        finished_others = λ w j a n k. spares core w j (λ q. n) (λ q (u : Receives deed w). k (rw (gives_back a) at u));
        move_done = λ start count to a z.
            let g = transfer_moves m fit e core is t start count to a z in
            record {
              first = g.first;
              lies = g.lies;
              inside = λ page h k. rw (owners_are m fit e core is t) (Effects.moved_inside s core xs g.first count to g.moves page r.whole.owners_whole h k).1;
              outside = λ page n. rw (owners_are m fit e core is t) (Effects.moved_outside s core xs g.first count to g.moves page n);
            };
        move_owned = λ start count to a z.
            let g = transfer_moves m fit e core is t start count to a z in
            had m core xs r.window start count g.first to g.lies g.moves;
        move_granted = λ start count to a y h.
            done_told m fit e core is t (asked_moved (sight s core) xs (may m fit e core is t) start count to h.first a y (movable m core xs r (omega (arith, c)) start count to h));
        owners_stay = λ n.
            owners_are m fit e core is t ∙ Effects.owners_spared s core xs (carries deed (λ first count to d.
            let v = moves_granted m fit e core is t first count to d in
            n v.start count to v.asks v.told));
        map_done = λ a z n.
            rw (lists_are m fit e core is t) (Left.list_mapped s core xs (wanted (args_of (called_by xs) xs))
            (told_done m fit e core is t (λ (d : Deed). d ≡ Map (wanted (args_of (called_by xs) xs))) (asked_map (sight s core) xs a n) z) r.window r.whole.lists_whole c);
        map_granted = λ a q.
            done_told m fit e core is t (asked_mapped (sight s core) xs (may m fit e core is t) a
            (mappable_granted s.site.window r.window s.owners (caller_of s core) (held s.lists (caller_of s core)) (wanted (args_of (called_by xs) xs)) r.packed (omega (arith, c)) sizes q));
        map_made = λ a z n.
            let d = told_done m fit e core is t (λ (d : Deed). d ≡ Map (wanted (args_of (called_by xs) xs))) (asked_map (sight s core) xs a n) z in
            let g = rw d at (grounded (sight s core) xs).stands in
            granted_mappable s.site.window r.window s.owners (caller_of s core) (held s.lists (caller_of s core)) (wanted (args_of (called_by xs) xs)) g.verdict;
        map_overlaps = λ a f k n i d.
            refuses Reason.Overlap (asked_unmappable (sight s core) xs (may m fit e core is t) a Reason.Overlap
            (overlap_refused s.site.window r.window s.owners (caller_of s core) (held s.lists (caller_of s core)) (wanted (args_of (called_by xs) xs)) f k n i d));
        unmap_done = λ a z.
            rw (lists_are m fit e core is t) (Left.list_unmapped s core xs (arg m core xs 1) (arg m core xs 2)
            (told_done m fit e core is t (λ (d : Deed). d ≡ Unmap (arg m core xs 1) (arg m core xs 2)) (asked_unmap (sight s core) xs a) z) r.whole.lists_whole);
        lists_stay = λ a b.
            lists_are m fit e core is t ∙ Left.lists_spared s core xs
            (λ n d.
            let v = called_for (sight s core) xs (Map n) (λ k. let z : ◌≡◌ {A = ℕ} 0 1 = cc in omega arith) d in
            a (partly v (λ h k. k.0)) (done_told m fit e core is t v.so.1.1)
            (λ z. some_size n d (ap (λ (q : Mapping). q.size) v.so.1.0 ∙ z)))
            (λ virt size d.
            let v = called_for (sight s core) xs (Unmap virt size) (λ k. let z : ◌≡◌ {A = ℕ} 0 1 = cc in omega arith) d in
            b (partly v (λ h k. k.0)) (done_told m fit e core is t v.so.1.1));
        other_lists = λ w n. rw (lists_are m fit e core is t) (Left.lists_others s core xs w n);
        start_done = λ a z.
            rw (powers_are m fit e core is t) (Left.power_started s core xs (arg m core xs 1) (arg m core xs 2) (arg m core xs 3)
            (told_done m fit e core is t (λ (d : Deed). d ≡ Start (arg m core xs 1) (arg m core xs 2) (arg m core xs 3)) (asked_start (sight s core) xs a) z) r.whole.powers_whole r.few_cores);
        start_ready = λ a z.
            startable m core xs (arg m core xs 1) (arg m core xs 2) (arg m core xs 3)
            (told_done m fit e core is t (λ (d : Deed). d ≡ Start (arg m core xs 1) (arg m core xs 2) (arg m core xs 3)) (asked_start (sight s core) xs a) z);
        off_done = λ a. rw (powers_are m fit e core is t) (Left.power_off s core xs (goes_off a) r.whole.powers_whole i (performs m fit e core is t).on);
        power_stays = λ k a b.
            rw (powers_are m fit e core is t) (Left.power_spared s core xs k
            (λ start context d.
            let v = called_for (sight s core) xs (Start k start context) (λ k. let z : ◌≡◌ {A = ℕ} 0 1 = cc in omega arith) d in
            a (partly v (λ h k. k.0)) (done_told m fit e core is t v.so.1.1) v.so.1.0.0)
            (λ d q. b (off_asked d) q));
      }

-- the machine after the arrival of a pending core
come : (m : Machine) → Fit m → (core : ℕ) → ready m.setup ≡ true → core < cores m.setup → is_pending (power m.powers core) ≡ true
    → HeededArrival m core (with_core_tables m ((arrived_in (core_tables_of m) core).0, Accepted)).0
come m fit core a b y =
    let r = fit.right a in
    let i : core < most_cores = omega (arith, b, r.few_cores) in
    record {
      was_pending = y;
      core_is_on = Effects.arrived_power (state_of m) core y i r.whole.powers_whole;
      in_normal = Effects.arrived_runs (state_of m) core y i r.whole.turns_whole;
      context = Effects.arrived_numbers (state_of m) core y i 0 r.whole.saved_whole (omega arith);
      zeros = λ j h l. Effects.arrived_numbers (state_of m) core y i j r.whole.saved_whole (omega arith) ∙ start_zeros (power m.powers core).context (power m.powers core).start j h l;
      start = Effects.arrived_numbers (state_of m) core y i 8 r.whole.saved_whole (omega arith);
      other_numbers = Effects.arrival_saved (state_of m) core;
      other_power = Effects.arrival_powers (state_of m) core;
      other_turns = Effects.arrival_turns (state_of m) core;
      owners_stay = refl;
      lists_stay = refl;
    }

arrival_heeded : (m : Machine) → Fit m → (e : Event) (core : ℕ) → e.0 ≡ Frame.Arrival core → reply m e ≡ Told Accepted → HeededArrival m core (next m e)
unfolding performed
arrival_heeded m fit e core is told =
    framed_by m e.1 (λ (g : Frame) (o : Machine × Reply). e.0 ≡ g → framed m e.0 e.1 ≡ o → HeededArrival m core o.0)
    (λ why k s. absurd (omega (arith, ap byte (sym is ∙ k))))
    (λ g why d k s. absurd (let q : Told why ≡ Told Accepted = sym (ap (λ (o : Machine × Reply). o.1) s) ∙ told in d cc))
    (λ base pages cores a b k s. absurd (omega (arith, ap byte (sym is ∙ k)))) (λ lowest last kind number a b c k s. absurd (omega (arith, ap byte (sym is ∙ k))))
    (λ lowest count to a b c k s. absurd (omega (arith, ap byte (sym is ∙ k)))) (λ c a b d k s. absurd (omega (arith, ap byte (sym is ∙ k))))
    (λ c a b d k s.
    let q : Frame.Arrival core ≡ Frame.Arrival c = sym is ∙ k in
    let z : core ≡ c = cc in
    rw z (come m fit c a b d))
    e.0 refl refl

module _ (m : Machine) (e : Event) where
  -- a line that is no call is answered by a status
  pub status_only : ((core : ℕ) → e.0 ≡ Frame.Call core → ⊥) → Taken (reply m e) → ⊥
  status_only n t =
      framed_by m e.1 (λ (g : Frame) (o : Machine × Reply). e.0 ≡ g → framed m e.0 e.1 ≡ o → ⊥)
      (λ why k h. t why (ap (λ (o : Machine × Reply). o.1) h)) (λ g why d k h. t why (ap (λ (o : Machine × Reply). o.1) h))
      (λ base pages cores a b k h. t Accepted (ap (λ (o : Machine × Reply). o.1) h)) (λ lowest last kind number a b c k h. t Accepted (ap (λ (o : Machine × Reply). o.1) h))
      (λ lowest count to a b c k h. t Accepted (ap (λ (o : Machine × Reply). o.1) h)) (λ core a b c k h. n core k) (λ core a b c k h. t Accepted (ap (λ (o : Machine × Reply). o.1) h))
      e.0 refl refl

  -- a call is never told that it is accepted
  call_not_told : (core : ℕ) → e.0 ≡ Frame.Call core → reply m e ≡ Told Accepted → ⊥
  unfolding performed
  call_not_told core is told =
      framed_by m e.1 (λ (g : Frame) (o : Machine × Reply). e.0 ≡ g → framed m e.0 e.1 ≡ o → ⊥)
      (λ why k h. omega (arith, ap byte (sym is ∙ k)))
      (λ g why d k h. let q : Told why ≡ Told Accepted = sym (ap (λ (o : Machine × Reply). o.1) h) ∙ told in d cc)
      (λ base pages cores a b k h. omega (arith, ap byte (sym is ∙ k))) (λ lowest last kind number a b c k h. omega (arith, ap byte (sym is ∙ k)))
      (λ lowest count to a b c k h. omega (arith, ap byte (sym is ∙ k)))
      (λ core a b c k h. shown_not_told _ _ _ _ Accepted (sym (ap (λ (o : Machine × Reply). o.1) h) ∙ told))
      (λ core a b c k h. omega (arith, ap byte (sym is ∙ k)))
      e.0 refl refl

  other_heeded : ((core : ℕ) → e.0 ≡ Frame.Call core → ⊥) → ((core : ℕ) → e.0 ≡ Frame.Arrival core → ⊥) → HeededOther m (next m e)
  other_heeded c a =
      framed_by m e.1 (λ (g : Frame) (o : Machine × Reply). e.0 ≡ g → HeededOther m o.0)
      (λ why k. same) (λ g why d k. same) (λ base pages cores a b k. same) (λ lowest last kind number a b c k. same) (λ lowest count to a b c k. same)
      (λ core x y z k. absurd (c core k))
      (λ core x y z k. absurd (a core k))
      e.0 refl
    where
      same : {s n l o : List ℕ} → HeededOther m (machine s n l o m.saved m.powers m.turns m.lists)
      same = record { numbers_stay = refl; power_stays = refl; turns_stay = refl; lists_stay = refl }

-- Each line is heeded.
pub heeded : (m : Machine) → Fit m → (e : Event) → Heeded m e (next m e) (reply m e)
heeded m fit e =
    record {
      refused_frame = refused_same m e.0 e.1;
      call = λ core is l t. call_heeded m fit e core is t l;
      call_told = call_not_told m e;
      arrival = arrival_heeded m fit e;
      other = other_heeded m e;
      other_told = status_only m e;
      set_up_goes_on = told_goes_on m e.0 e.1;
    }
