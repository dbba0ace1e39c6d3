-- The history of a page has exactly the lines of About.
use Rattle.std.proofs.Math.Path.{◌≡◌, refl, ap}
use Rattle.std.proofs.Common.{sym, ◌∙◌, arith}
use Rattle.std.proofs.Math.Bool.{true, false}
use Rattle.std.specs.Prelude.{◌&&◌, ◌||◌, ℕ, ◌+◌, ◌*◌, ◌/◌, ◌%◌, ◌≤◌, ◌<◌, leb, ltb, None, Option, Some}
use mathlib.Core.List.{List}
use Rattle.std.proofs.Math.Dec.{eqb}
use borrow.Author.Tests.{eq-eqb, eqb-true, eqb-false, ne_eqb, leb-true, leb-false, ltb-true}
use Rattle.spans.specs.Named.{Pages}
use Rattle.spans.specs.declared.Span.{Span}
use Rattle.mapping.specs.Leads.{To}
use Rattle.mapping.specs.declared.Lead.{Lead}
use Rattle.rules.specs.Choice.{pick, chosen, either, both_true, left_true, right_true, first_or, second_or, yes_or_no, pick_yes, pick_no}
use Rattle.rules.specs.Tests.{sieve}
use Rattle.rules.specs.Sizes.{page_size, secure}
use Rattle.rules.specs.declared.Reason.{Reason}
use Rattle.rules.specs.declared.Reason.TheVariants as Reason
use Rattle.pages.specs.Window.{acceptable, accepted, pages_to, page_of, run_of, run_is, run_yes, page_at, either_place}
use Rattle.pages.specs.declared.Window.{Window}
use Rattle.ranges.specs.declared.Mapping.{Mapping}
use Rattle.mapping.specs.Mapping.{exact, has_exactly, lead_of}
use Rattle.mapping.specs.Lists.{held}
use Rattle.mapping.specs.Entries.{Among, every_among, among_any}
use Rattle.mapping.specs.Sound.{page_start, Formed, Sound}
use Rattle.mapping.proofs.Sound.{granted_formed}
use Rattle.mapping.proofs.Once.{leads}
use Rattle.judgements.specs.Names.{granule_to_realm, granule_to_normal, take_pages, give_pages, map_pages, unmap_pages}
use Rattle.judgements.specs.Judge.{Sight, called_by, args_of, Listed, row_in, row_of, wanted, architecture, standard, realm_call, handing_to_realm, trusted, by_number, by_row, by_handler, judged}
use Rattle.judgements.specs.Asked.{key, Reached}
use Rattle.judgements.proofs.Asked.{called_for, judged_by_lem}
use Rattle.judgements.proofs.Grounds.{grounded}
use Rattle.judgements.specs.Decided.{Decided, done, refused}
use Rattle.judgements.proofs.Decided.{asked_map, asked_unmap}
use Rattle.judgements.specs.declared.Answer.{Answer}
use Rattle.judgements.specs.declared.Answer.TheVariants as Answer
use Rattle.judgements.specs.declared.Args.{Args}
use Rattle.judgements.specs.declared.Deed.{Deed}
use Rattle.judgements.specs.declared.Deed.TheVariants.{Map, Unmap}
use Rattle.judgements.specs.declared.Judged.{Judged}
use Rattle.judgements.specs.declared.Transfer.{Transfer}
use Rattle.calls.specs.Step.{sight, caller_of, called}
use Rattle.calls.specs.Effects.{answer_in, deed_in}
use Rattle.parsing.specs.Frame.{status_byte}
use Rattle.parsing.specs.declared.Status.TheVariants.{Accepted}
use Rattle.parsing.specs.declared.Frame.{Frame}
use Rattle.parsing.specs.declared.Frame.TheVariants as Frame
use Rattle.setup.specs.Table.{window}
use Rattle.calling.specs.Calling.{performed}
use Rattle.showing.specs.declared.Reply.{Reply}
use Rattle.showing.specs.declared.Reply.TheVariants as Reply
use Rattle.frames.specs.Frames.{Machine, first, state_of, framed}
use Rattle.frames.specs.Stays.{shown_not_told}
use Rattle.outcomes.specs.Laws.{came_by}
use Rattle.outcomes.specs.declared.Came.{Came}
use Rattle.origins.specs.Origins.{none, none_whole}
use Rattle.spans.specs.Spans.{any_row, span_of, over_page, over_by, asks_over, asks_for, is_verdict, is_done, named_in, named}
use Rattle.views.specs.Views.{holds, led_to, mapped_in, mapped_by, about, shows, shown}
use Rattle.views.specs.declared.View.TheVariants as View
use Rattle.guarantees.specs.Runs.{Event, Events, ran, reply, Taken}
use Rattle.guarantees.specs.Fit.{Fit, ran_fit}
use Rattle.guarantees.specs.Accepted.{right}
use Rattle.guarantees.specs.Owners.{names}
use Rattle.origin_theorems.specs.Rows.{by_key, NotDone, no_not, handed_not, by_handlers}
use Rattle.origin_theorems.specs.Marked.{status_zero, done_is, came_called}
use Rattle.standing_theorems.specs.About.{Wants, page_to_realm, page_to_normal, takes_pages, gives_pages, Settled, is_granted, is_refused, About, names_it, asks_it, maps_it, unmaps_it}
use Rattle.standing_theorems.specs.History.{holds_inside, over_is, page_in, one_page, any_naming}

-- ---- the four identifiers, and the row of each
no_row : {P : Type 0} {t : Transfer} → None ≡ Some t → P
no_row e = let z : ◌≡◌ {A = ℕ} 0 1 = cc in absurd (omega arith)

row_wants : (a : Args) (k : ℕ) (t : Transfer) → any_row a k ≡ Some t → Wants a k t.count
unfolding any_row row_in pick
row_wants a k t =
    by_key (λ (k : ℕ). any_row a k ≡ Some t → Wants a k t.count) k
    (λ e. let z : t.count ≡ 1 = cc in rw z page_to_realm)
    (λ e. let z : t.count ≡ 1 = cc in rw z page_to_normal)
    (λ e. let z : t.count ≡ a.x2 = cc in rw z takes_pages)
    (λ e. let z : t.count ≡ a.x2 = cc in rw z gives_pages)
    (λ b c d f e. no_row (sym (rw (ne_eqb k granule_to_realm b, ne_eqb k granule_to_normal c, ne_eqb k take_pages d, ne_eqb k give_pages f)) ∙ e))

wants_row : (a : Args) (k count : ℕ) → Wants a k count → (address : ℕ) → over_page address a.x1 count ≡ true → over_by address a (any_row a k) ≡ true
unfolding any_row row_in pick
wants_row a k count page_to_realm address h = h
wants_row a k count page_to_normal address h = h
wants_row a k count takes_pages address h = h
wants_row a k count gives_pages address h = h

-- ---- an address of the page that is asked for
record Met (address start count : ℕ) : Type 0 where
  x : ℕ
  low : start ≤ x
  high : x < start + count * page_size
  same : x / page_size ≡ address / page_size

over_met : (address start count : ℕ) → over_page address start count ≡ true → Met address start count
unfolding over_page
over_met address start count h =
    let at : ℕ = address / page_size * page_size in
    let r = right_true (ltb 0 count) (ltb start (at + page_size) && ltb at (start + count * page_size)) h in
    let some : 0 < count = ltb-true _ _ (left_true (ltb 0 count) (ltb start (at + page_size) && ltb at (start + count * page_size)) h) in
    let a : start < at + page_size = ltb-true _ _ (left_true (ltb start (at + page_size)) (ltb at (start + count * page_size)) r) in
    let b : at < start + count * page_size = ltb-true _ _ (right_true (ltb start (at + page_size)) (ltb at (start + count * page_size)) r) in
    either (leb start at) (λ y. let l : start ≤ at = leb-true _ _ y in record { x = at; low = l; high = b; same = omega arith })
    (λ n. let l : at < start = leb-false _ _ n in record { x = start; low = omega arith; high = omega arith; same = omega arith })

-- ---- a page of a run of the window
holds_is : (first count page : ℕ) → holds (Pages first count) (Some page) ≡ true → (first ≤ page) × (page < first + count)
unfolding holds
holds_is first count page h = (
  leb-true _ _ (left_true (leb first page) (ltb page (first + count)) h),
  ltb-true _ _ (right_true (leb first page) (ltb page (first + count)) h),
)

none_holds : {P : Type 0} (page : ℕ) → holds None (Some page) ≡ true → P
unfolding holds
none_holds page h = absurd (yes_or_no false h refl)

module _ (w : Window) (ok : acceptable w ≡ true) (start count page : ℕ) where
  record Over : Type 0 where
    low : start ≤ page_start w page
    high : page_start w page < start + count * page_size

  span_over : holds (span_of w start count) (Some page) ≡ true → Over
  span_over h =
      either_place (run_of w start count)
      (λ first e.
      let r = run_is w ok start count first e in
      let k = holds_is first count page (rw e at h) in
      record { low = omega (arith, r.starts, k.0); high = omega (arith, r.starts, k.1) })
      (λ e. none_holds page (rw e at h))

  over_span : start % page_size ≡ 0 → w.base ≤ start → start + count * page_size ≤ page_start w w.pages → Over → holds (span_of w start count) (Some page) ≡ true
  over_span a l h o =
      let k = accepted w ok in
      let r = run_yes w start count (record { aligned = a; low = l; inside = omega (arith, k.aligned) }) in
      rw r (holds_inside (pages_to w start) count page (omega (arith, k.aligned, o.low)) (omega (arith, k.aligned, o.high)))

-- ---- only the board maps and unmaps
module _ (s : Sight) (xs : List ℕ) where
  abbrev args : Args
  args = args_of (called_by xs) xs

  module _ (k : ℕ) (row : (h : ℕ) → row_of args h k ≡ None) (zero : NotDone (architecture args k))
      (two : NotDone (standard s.inner.caller s.inner.powers s.inner.owners args k)) (three : NotDone (trusted s.inner.caller k)) where
    board_alone : key xs ≡ k → (judged s xs).answer ≡ Answer.Done → Reached s xs (λ h. (h ≡ 1) × (key xs ≡ k))
    unfolding by_row
    board_alone is d =
        judged_by_lem s xs (λ (j : Judged). judged s xs ≡ j → Reached s xs (λ h. (h ≡ 1) × (key xs ≡ k)))
        (λ r e. absurd (no_not r (sym (ap (λ (j : Judged). j.answer) e) ∙ d)))
        (λ h ok l e. either (eqb h 1) (λ y. record { passes = ok; number = h; reached = l; so = (eqb-true h 1 y, is) })
        (λ n.
        let z : by_handler s.inner args k h ≡ by_number s.inner args k h = rw (row h) in
        let v : judged s xs ≡ by_number s.inner args k h = (rw is at e) ∙ z in
        absurd (by_handlers s.inner args h k zero (λ q. absurd (eqb-false h 1 n q)) (λ q. two) three (sym (ap (λ (j : Judged). j.answer) v) ∙ d)))) refl

  no_transfer : (k : ℕ) → row_of args 2 k ≡ None → row_of args 1 k ≡ None → (h : ℕ) → row_of args h k ≡ None
  unfolding row_in pick
  no_transfer k e f h =
      chosen (λ (ls : List Listed). row_in ls k ≡ None) (eqb h 2) _ _ (λ y. e) (λ n. chosen (λ (ls : List Listed). row_in ls k ≡ None) (eqb h 1) _ _ (λ y. f) (λ m. refl))

  board_maps : key xs ≡ map_pages → (judged s xs).answer ≡ Answer.Done → Reached s xs (λ h. (h ≡ 1) × (key xs ≡ map_pages))
  unfolding row_in architecture standard realm_call handing_to_realm trusted sieve pick
  board_maps = board_alone map_pages (no_transfer map_pages refl refl) (no_not Reason.Unserved) (no_not Reason.Unserved) (handed_not s.inner args secure)

  board_unmaps : key xs ≡ unmap_pages → (judged s xs).answer ≡ Answer.Done → Reached s xs (λ h. (h ≡ 1) × (key xs ≡ unmap_pages))
  unfolding row_in architecture standard realm_call handing_to_realm trusted sieve pick
  board_unmaps = board_alone unmap_pages (no_transfer unmap_pages refl refl) (no_not Reason.Unserved) (no_not Reason.Unserved) (handed_not s.inner args secure)

-- ---- what is done
done_deed : {P : Deed → Type 0} (j : Judged) → Decided Answer.Done P j → j.answer ≡ Answer.Done → P j.deed
done_deed j (done a p) d = p
done_deed j (refused r a) d = let z : Answer.No r ≡ Answer.Done = sym a ∙ d in let y : ◌≡◌ {A = ℕ} 0 1 = cc in absurd (omega arith)

verdict_settled : (a : Answer) → is_verdict a ≡ true → Settled a
verdict_settled Answer.Version e = absurd (yes_or_no false e refl)
verdict_settled Answer.PowerVersion e = absurd (yes_or_no false e refl)
verdict_settled Answer.Done e = is_granted
verdict_settled Answer.On e = absurd (yes_or_no false e refl)
verdict_settled Answer.Off e = absurd (yes_or_no false e refl)
verdict_settled Answer.Pending e = absurd (yes_or_no false e refl)
verdict_settled (Answer.Owns is) e = absurd (yes_or_no false e refl)
verdict_settled (Answer.Leads phys attr) e = absurd (yes_or_no false e refl)
verdict_settled (Answer.Count n) e = absurd (yes_or_no false e refl)
verdict_settled Answer.Silent e = absurd (yes_or_no false e refl)
verdict_settled (Answer.No r) e = is_refused r

settled_verdict : {a : Answer} → Settled a → is_verdict a ≡ true
settled_verdict is_granted = refl
settled_verdict (is_refused r) = refl

-- ---- a line of the run
module _ (m : Machine) (fit : Fit m) (e : Event) (page address : ℕ) (lies : page_of (window m.setup) address ≡ Some page) where
  abbrev w : Window
  w = window m.setup

  abbrev a : Args
  a = args_of (called_by e.1) e.1

  -- ---- an accepted call
  module _ (core : ℕ) (is : e.0 ≡ Frame.Call core) (ok : Taken (reply m e)) where
    abbrev sees : Sight
    sees = sight (state_of m) core

    abbrev answer : Answer
    answer = answer_in (state_of m) core e.1

    abbrev own : List Mapping
    own = held m.lists (caller_of (state_of m) core)

    good : acceptable w ≡ true
    good = (right m fit e core is ok).window

    sound : Sound w m.owners (caller_of (state_of m) core) own
    sound = (right m fit e core is ok).sound (caller_of (state_of m) core)

    same_page : (x : ℕ) → x / page_size ≡ address / page_size → page_of w x ≡ Some page
    same_page x q =
        let k = accepted w good in
        let i = page_in w address page lies in
        page_at w x page (record { low = omega (arith, k.aligned, i.low, i.high); high = omega (arith, k.aligned, i.low, i.high); inside = i.inside })

    leads_own : (n : Mapping) → Among n own → (attr : ℕ) × (lead_of own n.virt ≡ To n.phys attr)
    leads_own n i =
        let f = every_among (Formed w) own n sound.formed i in
        leads w good m.owners (caller_of (state_of m) core) own sound n.virt n.phys (record { through = n; among = i; low = omega arith; high = omega (arith, f.some); place = omega arith })

    asked_only : is_verdict answer ≡ true → asks_over address e.1 ≡ true → About m e page
    unfolding asks_over
    asked_only v = of (any_row a (key e.1)) refl
      where
        of : (r : Option Transfer) → any_row a (key e.1) ≡ r → over_by address a r ≡ true → About m e page
        of (Some t) q o =
            let z = over_met address a.x1 t.count o in
            asks_it (record { core = core; is_call = is; accepted = ok; count = t.count; wants = row_wants a (key e.1) t q; x = z.x; low = z.low; high = z.high; lies = same_page z.x z.same; settled = verdict_settled answer v })
        of None q o = absurd (yes_or_no false o refl)

    maps_only : key e.1 ≡ map_pages → answer ≡ Answer.Done → holds (span_of w a.x1 (a.x3 / page_size)) (Some page) ≡ true → About m e page
    maps_only k d h =
        let o = span_over w good a.x1 (a.x3 / page_size) page h in
        let some : a.x3 ≡ 0 → ⊥ = λ z. omega (arith, o.low, o.high) in
        let made = done_deed (judged sees e.1) (asked_map sees e.1 (board_maps sees e.1 k d) some) d in
        maps_it (record { core = core; is_call = is; accepted = ok; mapping = wanted a; made = made; low = o.low; high = omega (arith, o.high) })

    unmapped : (n : Mapping) → Among n own → n.virt ≡ a.x1 → n.size ≡ a.x2 → deed_in (state_of m) core e.1 ≡ Unmap a.x1 a.x2
        → holds (led_to w (lead_of own a.x1) (a.x2 / page_size)) (Some page) ≡ true → About m e page
    unmapped n i virt size removed h =
        let l = leads_own n i in
        let z : lead_of own a.x1 ≡ To n.phys l.0 = ap (lead_of own) (sym virt) ∙ l.1 in
        let o = span_over w good n.phys (a.x2 / page_size) page (rw z at h) in
        unmaps_it (record { core = core; is_call = is; accepted = ok; mapping = n; had = i; removed = rw (virt, size) removed; low = o.low; high = omega (arith, o.high, size) })

    unmaps_only : key e.1 ≡ unmap_pages → answer ≡ Answer.Done → holds (led_to w (lead_of own a.x1) (a.x2 / page_size)) (Some page) ≡ true → About m e page
    unfolding has_exactly exact
    unmaps_only k d h =
        let removed = done_deed (judged sees e.1) (asked_unmap sees e.1 (board_unmaps sees e.1 k d)) d in
        let g = rw removed at (grounded sees e.1).stands in
        let v = among_any (exact a.x1 a.x2) own g.holds in
        unmapped v.0 v.1.0 (eqb-true _ _ (left_true (eqb v.0.virt a.x1) (eqb v.0.size a.x2) v.1.1))
        (eqb-true _ _ (right_true (eqb v.0.virt a.x1) (eqb v.0.size a.x2) v.1.1)) removed h

    mapped_only : answer ≡ Answer.Done → holds (mapped_in w own e.1) (Some page) ≡ true → About m e page
    unfolding mapped_in
    mapped_only d =
        chosen (λ (s : Option Span). holds s (Some page) ≡ true → About m e page) (eqb (key e.1) map_pages) _ _ (λ y h. maps_only (eqb-true _ _ y) d h)
        (λ n. chosen (λ (s : Option Span). holds s (Some page) ≡ true → About m e page) (eqb (key e.1) unmap_pages) _ _ (λ y h. unmaps_only (eqb-true _ _ y) d h) (λ k h. none_holds page h))

    call_only : (asks_for (Some page) address e.1 answer || (is_done answer && holds (mapped_in w own e.1) (Some page))) ≡ true → About m e page
    call_only h =
        either (asks_for (Some page) address e.1 answer)
        (λ y. asked_only (left_true (is_verdict answer) (asks_over address e.1) y) (right_true (is_verdict answer) (asks_over address e.1) y))
        (λ n.
        let k : (is_done answer && holds (mapped_in w own e.1) (Some page)) ≡ true = rw n at h in
        mapped_only (done_is answer (left_true (is_done answer) (holds (mapped_in w own e.1) (Some page)) k)) (right_true (is_done answer) (holds (mapped_in w own e.1) (Some page)) k))

    -- ---- and back
    maps_back : (n : Mapping) → deed_in (state_of m) core e.1 ≡ Map n → n.phys ≤ page_start w page → page_start w page < n.phys + n.size
        → (is_done answer && holds (mapped_in w own e.1) (Some page)) ≡ true
    unfolding mapped_in
    maps_back n made low high =
        let c = (called_for sees e.1 (Map n) (λ k. let z : ◌≡◌ {A = ℕ} 0 1 = cc in omega arith) made).so in
        let g = rw made at (grounded sees e.1).stands in
        let f = granted_formed w good own m.owners (caller_of (state_of m) core) n g.verdict in
        let phys : n.phys ≡ a.x1 = ap (λ (n : Mapping). n.phys) c.1.0 in
        let size : n.size ≡ a.x3 = ap (λ (n : Mapping). n.size) c.1.0 in
        let h = over_span w good a.x1 (a.x3 / page_size) page (omega (arith, phys, f.phys_aligned)) (omega (arith, phys, f.low)) (omega (arith, phys, size, f.high, f.size_aligned))
        (record { low = omega (arith, phys, low); high = omega (arith, phys, size, high, f.size_aligned) }) in
        let yes : is_done answer ≡ true = rw c.1.1 in
        let z : mapped_in w own e.1 ≡ span_of w a.x1 (a.x3 / page_size) = pick_yes (eqb (key e.1) map_pages) _ _ (eq-eqb _ _ c.0.1) in
        both_true (is_done answer) (holds (mapped_in w own e.1) (Some page)) yes (ap (λ (s : Option Span). holds s (Some page)) z ∙ h)

    unmaps_back : (n : Mapping) → Among n own → deed_in (state_of m) core e.1 ≡ Unmap n.virt n.size → n.phys ≤ page_start w page → page_start w page < n.phys + n.size
        → (is_done answer && holds (mapped_in w own e.1) (Some page)) ≡ true
    unfolding mapped_in
    unmaps_back n i removed low high =
        let c = (called_for sees e.1 (Unmap n.virt n.size) (λ k. let z : ◌≡◌ {A = ℕ} 0 1 = cc in omega arith) removed).so in
        let f = every_among (Formed w) own n sound.formed i in
        let l = leads_own n i in
        let z : lead_of own a.x1 ≡ To n.phys l.0 = ap (lead_of own) (sym c.1.0.0) ∙ l.1 in
        let size : n.size ≡ a.x2 = c.1.0.1 in
        let h = over_span w good n.phys (a.x2 / page_size) page f.phys_aligned f.low (omega (arith, size, f.high, f.size_aligned)) (record { low = low; high = omega (arith, size, high, f.size_aligned) }) in
        let yes : is_done answer ≡ true = rw c.1.1 in
        let other : eqb (key e.1) map_pages ≡ false = ne_eqb (key e.1) map_pages (λ (k : key e.1 ≡ map_pages). omega (arith, k, c.0.1)) in
        let led : led_to w (lead_of own a.x1) (a.x2 / page_size) ≡ span_of w n.phys (a.x2 / page_size) = ap (λ (l : Option Lead). led_to w l (a.x2 / page_size)) z in
        let v : mapped_in w own e.1 ≡ span_of w n.phys (a.x2 / page_size) =
        pick_no (eqb (key e.1) map_pages) _ _ other ∙ (pick_yes (eqb (key e.1) unmap_pages) _ _ (eq-eqb _ _ c.0.1) ∙ led) in
        both_true (is_done answer) (holds (mapped_in w own e.1) (Some page)) yes (ap (λ (s : Option Span). holds s (Some page)) v ∙ h)

  -- Every line that is told is one of these,
  naming_only : (f : Frame) → e.0 ≡ f → reply m e ≡ Reply.Told Accepted → holds (named_in f) (Some page) ≡ true → About m e page
  naming_only (Frame.Site base pages cores) is told h = none_holds page h
  naming_only (Frame.Entry lowest last kind number) is told h = none_holds page h
  naming_only (Frame.Name lowest count to) is told h =
      let k = holds_is lowest count page h in
      names_it (record { lowest = lowest; count = count; is_name = is; accepted = told; low = k.0; below = k.1 })
  naming_only (Frame.Call core) is told h = none_holds page h
  naming_only (Frame.Arrival core) is told h = none_holds page h
  naming_only (Frame.Refused why) is told h = none_holds page h

  pub only_about : shown (View.Page address) m e ≡ true → About m e page
  unfolding shows about named performed called
  only_about h =
      came_by m e.1
      (λ (f : Frame) (o : Machine × Reply) (c : Came). e.0 ≡ f → framed m e.0 e.1 ≡ o → about (Some page) address w e.0 e.1 c (mapped_by w e.0 e.1 m.turns m.lists) ≡ true → About m e page)
      (λ f last why k is so.
      chosen (λ (s : Option Span). holds s (Some page) ≡ true → About m e page) (eqb (status_byte why) 0) _ _
      (λ y. naming_only e.0 refl (ap (λ (o : Machine × Reply). o.1) so ∙ ap Reply.Told (status_zero why (eqb-true _ _ y)))) (λ n. none_holds page))
      (λ core b c d is so q. call_only core is (λ why k. shown_not_told _ _ _ _ why (sym (ap (λ (o : Machine × Reply). o.1) so) ∙ k)) (rw is at q))
      e.0 refl refl (rw lies at h)

  -- and each of these is told.
  pub all_about : About m e page → shown (View.Page address) m e ≡ true
  unfolding shows about asks_over called
  all_about (names_it g) = any_naming m fit e page address lies _ (names g)
  all_about (asks_it g) =
      let o = over_is address a.x1 g.count g.x (one_page w (good g.core g.is_call g.accepted) address g.x page lies g.lies) g.low g.high in
      rw (lies, came_called m fit e page none none_whole 0 g.core g.is_call g.accepted)
      (first_or _ _ (both_true _ _ (settled_verdict g.settled) (wants_row a (key e.1) g.count g.wants address o)))
  all_about (maps_it g) =
      rw (lies, came_called m fit e page none none_whole 0 g.core g.is_call g.accepted, g.is_call)
      (second_or (asks_for (Some page) address e.1 (answer_in (state_of m) g.core e.1)) _ (maps_back g.core g.is_call g.accepted g.mapping g.made g.low g.high))
  all_about (unmaps_it g) =
      rw (lies, came_called m fit e page none none_whole 0 g.core g.is_call g.accepted, g.is_call)
      (second_or (asks_for (Some page) address e.1 (answer_in (state_of m) g.core e.1)) _ (unmaps_back g.core g.is_call g.accepted g.mapping g.had g.removed g.low g.high))

-- So it is with a line after any others.
pub any_history : (run : Events) (e : Event) (page address : ℕ) → page_of (window (ran first run).setup) address ≡ Some page
    → (shown (View.Page address) (ran first run) e ≡ true → About (ran first run) e page) × (About (ran first run) e page → shown (View.Page address) (ran first run) e ≡ true)
any_history run e page address lies = (only_about (ran first run) (ran_fit run) e page address lies, all_about (ran first run) (ran_fit run) e page address lies)
