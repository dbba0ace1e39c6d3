-- The owner of a page after a run is the one whom the run names, and nobody else is named.
use Rattle.std.specs.Prelude.{◌≡◌, true, false, ℕ, ◌+◌, ◌≤◌, ◌<◌, Ok}
use Rattle.std.proofs.Math.Path.{refl, sym, ap}
use Rattle.std.proofs.Common.{◌∙◌, arith}
use mathlib.Core.List.{List, [], ◌∷◌, ◌++◌}
use Rattle.rules.specs.Sizes.{root}
use Rattle.rules.specs.Choice.{yes_or_no}
use Rattle.pages.specs.Owners.{owner, given, unowned_owner, unowned_given}
use Rattle.pages.specs.Named.{is_named}
use Rattle.pages.specs.Naming.{naming, naming_granted, granted_inside, granted_outside}
use Rattle.judgements.specs.declared.Deed.TheVariants.{Move}
use Rattle.calls.specs.Effects.{deed_in, after, Carries, owners_spared, moved_inside, moved_outside}
use Rattle.parsing.specs.declared.Status.{Status}
use Rattle.parsing.specs.declared.Status.TheVariants.{Accepted}
use Rattle.parsing.specs.declared.Frame.{Frame}
use Rattle.parsing.specs.declared.Frame.TheVariants as Frame
use Rattle.setup.specs.Table.{ready, ended, window}
use Rattle.calling.specs.Calling.{performed}
use Rattle.frames.specs.Frames.{Machine, framed, state_of}
use Rattle.frames.specs.Stays.{framed_by, shown_not_told, settled}
use Rattle.showing.specs.declared.Reply.{Reply}
use Rattle.showing.specs.declared.Reply.TheVariants.{Told}
use Rattle.guarantees.specs.Runs.{Event, Events, byte, next, reply, ran, ran-two, always}
use Rattle.guarantees.specs.Accepted.{moves_granted}
use Rattle.guarantees.specs.Named.{Transfers, Names, Unmoved, Unnamed, Named, by_transfer, by_set_up, as_before}
use Rattle.guarantees.specs.Fit.{Fit, fit_next}
use Rattle.guarantees.specs.Owners.{Gives, Outcome, gave, gives_one, inside_or_not, kept, moves, moves_deed, named_stays, names, naming_is, other_kind, transfer_ends, transfer_or_not}

module _ (m : Machine) (fit : Fit m) (e : Event) (page : ℕ) where
  -- an accepted naming
  naming_outcome : (lowest count to : ℕ) → ready m.setup ≡ true → (naming m.owners m.named (window m.setup).pages lowest count to).0 ≡ (Ok tt)
      → e.0 ≡ Frame.Name lowest count to → reply m e ≡ Told Accepted → (o : Machine) → o.owners ≡ (naming m.owners m.named (window m.setup).pages lowest count to).1.0
      → Outcome m e page o
  naming_outcome lowest count to a c is told o w =
      let g = naming_granted m.owners m.named (window m.setup).pages lowest count to c in
      let done = (naming m.owners m.named (window m.setup).pages lowest count to).1 in
      inside_or_not lowest count page
      (λ h l. gave to (names (record { lowest = lowest; count = count; is_name = is; accepted = told; low = h; below = l }))
      (rw w (granted_inside m.owners m.named (window m.setup).pages lowest count to page done g (fit.right a).whole.owners_whole fit.names h l).0))
      (λ n. kept (λ u. none u n) (rw w (granted_outside m.owners m.named (window m.setup).pages lowest count to page done g n).0))
    where
      none : (u : ℕ) → (lowest ≤ page → page < lowest + count → ⊥) → Gives m e page u → ⊥
      none u n (moves t) = omega (arith, ap byte (sym t.is_call ∙ is))
      none u n (names t) =
          let c : Frame.Name t.lowest t.count u ≡ Frame.Name lowest count to = sym t.is_name ∙ is in
          let x : t.lowest ≡ lowest = cc in
          let y : t.count ≡ count = cc in
          n (omega (arith, t.low)) (omega (arith, t.below))

  -- an accepted call
  call_outcome : (core : ℕ) → ready m.setup ≡ true → e.0 ≡ Frame.Call core → ((why : Status) → reply m e ≡ Told why → ⊥)
      → (o : Machine) → o.owners ≡ (after (state_of m) core e.1).owners → Outcome m e page o
  call_outcome core a is ok o w =
      transfer_or_not (deed_in (state_of m) core e.1)
      (λ lowest count to d.
      let v = moves_granted m fit e core is ok lowest count to d in
      inside_or_not lowest count page
      (λ h l. gave to (moves (record { core = core; is_call = is; accepted = ok; start = v.start; count = count; asks = v.asks; granted = v.told; lowest = lowest; lies = v.lies; low = h; high = l }))
      (rw w (moved_inside (state_of m) core e.1 lowest count to d page (fit.right a).whole.owners_whole h l).1))
      (λ n. kept (λ u. elsewhere u lowest count to d n) (rw w (moved_outside (state_of m) core e.1 lowest count to d page n))))
      (λ n. kept (λ u. still u n) (rw w (ap (λ (t : List ℕ). owner t page) (owners_spared (state_of m) core e.1 n))))
    where
      same_core : (c : ℕ) → e.0 ≡ Frame.Call c → c ≡ core
      same_core c is2 = let k : Frame.Call c ≡ Frame.Call core = sym is2 ∙ is in cc

      elsewhere : (u lowest count to : ℕ) → deed_in (state_of m) core e.1 ≡ Move lowest count to → (lowest ≤ page → page < lowest + count → ⊥) → Gives m e page u → ⊥
      elsewhere u lowest count to d n (names t) = omega (arith, ap byte (sym t.is_name ∙ is))
      elsewhere u lowest count to d n (moves t) =
          let c : t.core ≡ core = same_core t.core t.is_call in
          let g : Move t.lowest t.count u ≡ Move lowest count to = sym (rw c at (moves_deed fit t)) ∙ d in
          let x : t.lowest ≡ lowest = cc in
          let y : t.count ≡ count = cc in
          n (omega (arith, t.low)) (omega (arith, t.high))

      still : (u : ℕ) → (Carries (deed_in (state_of m) core e.1) → ⊥) → Gives m e page u → ⊥
      still u n (names t) = omega (arith, ap byte (sym t.is_name ∙ is))
      still u n (moves t) =
          let c : t.core ≡ core = same_core t.core t.is_call in
          let g : deed_in (state_of m) core e.1 ≡ Move t.lowest t.count u = rw c at (moves_deed fit t) in
          n (rw g tt)

  -- an accepted site: before it every page was Root's
  site_keeps : (pages : ℕ) → ready m.setup ≡ false → owner (given m.owners 0 pages root) page ≡ owner m.owners page
  site_keeps pages a = rw (fit.idle a) (unowned_given 0 pages page ∙ sym (unowned_owner page))

  -- any line
  pub outcome : Outcome m e page (next m e)
  unfolding performed
  outcome =
      framed_by m e.1 (λ (g : Frame) (o : Machine × Reply). e.0 ≡ g → framed m e.0 e.1 ≡ o → Outcome m e page o.0)
      (λ why is so. other_kind m e page is (λ k. omega arith) (λ k. omega arith) _ refl)
      (λ g why d is so. kept (λ u. refusal why d so u) refl)
      (λ base pages cores a b is so. other_kind m e page is (λ k. omega arith) (λ k. omega arith) _ (site_keeps pages a))
      (λ lowest last kind number a b c is so. other_kind m e page is (λ k. omega arith) (λ k. omega arith) _ refl)
      (λ lowest count to a b c is so. naming_outcome lowest count to a c is (ap (λ (o : Machine × Reply). o.1) so) _ refl)
      (λ core a b c is so. call_outcome core a is (λ why k. shown_not_told _ _ _ _ why (sym (ap (λ (o : Machine × Reply). o.1) so) ∙ k)) _ refl)
      (λ core a b c is so. other_kind m e page is (λ k. omega arith) (λ k. omega arith) _ refl)
      e.0 refl refl
    where
      refusal : (why : Status) → (why ≡ Accepted → ⊥) → framed m e.0 e.1 ≡ (m, Told why) → (u : ℕ) → Gives m e page u → ⊥
      refusal why d so u (moves t) = t.accepted why (ap (λ (o : Machine × Reply). o.1) so)
      refusal why d so u (names t) = let k : Told why ≡ Told Accepted = sym (ap (λ (o : Machine × Reply). o.1) so) ∙ t.accepted in d cc

  -- so what a line names is the owner after it
  gives_is : (to : ℕ) → Gives m e page to → owner (next m e).owners page ≡ to
  gives_is to g = after_it outcome
    where
      after_it : Outcome m e page (next m e) → owner (next m e).owners page ≡ to
      after_it (gave u h o) = o ∙ gives_one fit h g
      after_it (kept n o) = absurd (n to g)

  -- and without a name the owner stays
  gives_not : ((to : ℕ) → Transfers m e page to → ⊥) → ((to : ℕ) → Names m e page to → ⊥) → owner (next m e).owners page ≡ owner m.owners page
  gives_not t n = after_it outcome
    where
      after_it : Outcome m e page (next m e) → owner (next m e).owners page ≡ owner m.owners page
      after_it (gave u (moves h) o) = absurd (t u h)
      after_it (gave u (names h) o) = absurd (n u h)
      after_it (kept n o) = o

module _ (page : ℕ) where
  -- once set-up has ended it has ended for good
  pub ended_stays : (run : Events) (m : Machine) → ended m.setup ≡ true → ended (ran m run).setup ≡ true
  ended_stays run m k = always (λ (q : Machine). ended q.setup ≡ true) (λ q e h. (settled q e.0 e.1 h).ended) m run k

  -- then no page is named
  pub ended_unnamed : (run : Events) (m : Machine) → Fit m → ended m.setup ≡ true → Unnamed m run page
  unfolding Unnamed
  ended_unnamed [] m fit k = tt
  ended_unnamed (e ∷ rest) m fit k =
      (λ to t. yes_or_no _ k (naming_is m e page fit to t).in_time, ended_unnamed rest (next m e) (fit_next m e fit) (settled m e.0 e.1 k).ended)

  -- nor is one that was named before
  pub marked_unnamed : (run : Events) (m : Machine) → Fit m → is_named m.named page ≡ true → Unnamed m run page
  unfolding Unnamed
  marked_unnamed [] m fit k = tt
  marked_unnamed (e ∷ rest) m fit k =
      (λ to t. yes_or_no _ k (naming_is m e page fit to t).free, marked_unnamed rest (next m e) (fit_next m e fit) (named_stays m e page fit k))

  -- what comes after a line of a run
  pub unmoved_later : (before : Events) (m : Machine) (e : Event) (later : Events) → Unmoved m (before ++ e ∷ later) page → Unmoved (next (ran m before) e) later page
  unfolding Unmoved ran
  unmoved_later [] m e later u = u.1
  unmoved_later (b ∷ before) m e later u = unmoved_later before (next m b) e later u.1

  -- ---- over runs
  -- without a name the owner stays
  keeps : (run : Events) (m : Machine) → Fit m → Unmoved m run page → Unnamed m run page → owner (ran m run).owners page ≡ owner m.owners page
  unfolding Unmoved Unnamed ran
  keeps [] m fit u n = refl
  keeps (e ∷ rest) m fit u n = keeps rest (next m e) (fit_next m e fit) u.1 n.1 ∙ gives_not m fit e page u.0 n.0

  -- the run with one line before it
  longer : (m : Machine) → Fit m → (e : Event) (rest : Events) (to : ℕ) → Named (next m e) rest page to → Named m (e ∷ rest) page to
  unfolding Unmoved Unnamed ran
  longer m fit e rest to (by_transfer l) =
      by_transfer (record { before = e ∷ l.before; line = l.line; later = l.later; stands = ap (λ (q : Events). e ∷ q) l.stands; granted = l.granted; last = l.last })
  longer m fit e rest to (by_set_up u n) =
      by_set_up (
        λ v t.
            yes_or_no _ (ended_stays n.before (next m e) (transfer_ends m e page v t))
            (naming_is (ran (next m e) n.before) n.line page (always Fit fit_next (next m e) n.before (fit_next m e fit)) to n.named).in_time,
        u,
      )
      (record { before = e ∷ n.before; line = n.line; later = n.later; stands = ap (λ (q : Events). e ∷ q) n.stands; named = n.named })
  longer m fit e rest to (as_before u n) = now (outcome m fit e page)
    where
      now : Outcome m e page (next m e) → Named m (e ∷ rest) page (owner (next m e).owners page)
      now (gave v (moves t) o) = rw o (by_transfer (record { before = []; line = e; later = rest; stands = refl; granted = t; last = u }))
      now (gave v (names t) o) =
          rw o (by_set_up (λ w h. omega (arith, ap byte (sym h.is_call ∙ t.is_name)), u) (record { before = []; line = e; later = rest; stands = refl; named = t }))
      now (kept g o) = rw o (as_before (λ w h. g w (moves h), u) (λ w h. g w (names h), n))

  -- The owner of a page after a run is the one whom the run names.
  pub owner_named : (run : Events) (m : Machine) → Fit m → Named m run page (owner (ran m run).owners page)
  unfolding ran Unmoved Unnamed
  owner_named [] m fit = as_before tt tt
  owner_named (e ∷ rest) m fit = longer m fit e rest _ (owner_named rest (next m e) (fit_next m e fit))

  -- And nobody else is named.
  pub named_owner : (run : Events) (m : Machine) (to : ℕ) → Fit m → Named m run page to → owner (ran m run).owners page ≡ to
  unfolding ran
  named_owner run m to fit (by_transfer l) =
      let n = ran m l.before in
      let f = always Fit fit_next m l.before fit in
      rw (l.stands, ran-two m l.before (l.line ∷ l.later))
      (keeps l.later (next n l.line) (fit_next n l.line f) l.last (ended_unnamed l.later (next n l.line) (fit_next n l.line f) (transfer_ends n l.line page to l.granted))
      ∙ gives_is n f l.line page to (moves l.granted))
  named_owner run m to fit (by_set_up u l) =
      let n = ran m l.before in
      let f = always Fit fit_next m l.before fit in
      rw (l.stands, ran-two m l.before (l.line ∷ l.later))
      (keeps l.later (next n l.line) (fit_next n l.line f) (unmoved_later l.before m l.line l.later (rw l.stands at u))
      (marked_unnamed l.later (next n l.line) (fit_next n l.line f) (naming_is n l.line page f to l.named).marked)
      ∙ gives_is n f l.line page to (names l.named))
  named_owner run m to fit (as_before u n) = keeps run m fit u n
