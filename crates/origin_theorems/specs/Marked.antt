-- One line: it is noted for a page exactly where it names the page's owner, as a granted transfer or as an accepted set-up line.
use Rattle.std.specs.Prelude.{◌≡◌, true, List, ℕ, ◌+◌, ◌≤◌, ◌<◌, eqb, None, Option, Some}
use Rattle.std.proofs.Math.Path.{refl, ap}
use Rattle.std.proofs.Common.{sym, ◌∙◌, arith, eqb-true}
use Rattle.spans.specs.Named.{Pages}
use Rattle.spans.specs.declared.Span.{Span}
use Rattle.judgements.specs.declared.Transfer.{Transfer}
use Rattle.rules.specs.Choice.{pick, chosen}
use Rattle.rules.specs.Sizes.{most_pages}
use Rattle.pages.specs.Window.{run_of, run_is}
use Rattle.pages.specs.Naming.{naming_granted}
use Rattle.pages.specs.declared.Window.{Window}
use Rattle.judgements.specs.Judge.{called_by, args_of}
use Rattle.judgements.specs.Asked.{key, Asks, by_row_lem}
use Rattle.judgements.proofs.Asked.{called_for}
use Rattle.judgements.specs.declared.Args.{Args}
use Rattle.judgements.specs.declared.Caller.{Caller}
use Rattle.judgements.specs.declared.Answer.{Answer}
use Rattle.judgements.specs.declared.Answer.TheVariants as Answer
use Rattle.judgements.specs.declared.Deed.TheVariants.{Move}
use Rattle.calls.specs.Step.{sight, called}
use Rattle.calls.specs.Effects.{answer_in}
use Rattle.parsing.specs.Frame.{status_byte}
use Rattle.parsing.specs.declared.Status.{Status}
use Rattle.parsing.specs.declared.Status.TheVariants as Status
use Rattle.parsing.specs.declared.Frame.{Frame}
use Rattle.parsing.specs.declared.Frame.TheVariants as Frame
use Rattle.setup.specs.Table.{window}
use Rattle.calling.specs.Calling.{performed}
use Rattle.showing.specs.declared.Reply.{Reply}
use Rattle.showing.specs.declared.Reply.TheVariants as Reply
use Rattle.frames.specs.Frames.{Machine, framed, state_of}
use Rattle.frames.specs.Stays.{framed_by, shown_not_told}
use Rattle.outcomes.specs.Outcomes.{came}
use Rattle.outcomes.specs.Laws.{came_by}
use Rattle.outcomes.specs.declared.Came.{Came}
use Rattle.outcomes.specs.declared.Came.TheVariants.{Told, Called}
use Rattle.origins.specs.Origins.{WholeOrigins, origin, marked_inside, marked_outside}
use Rattle.spans.specs.Spans.{any_row, span_by, asked_by, is_done, named_in, named}
use Rattle.tracing.specs.Traced.{noted}
use Rattle.guarantees.specs.Runs.{Event, byte, reply, Taken}
use Rattle.guarantees.specs.Fit.{Fit}
use Rattle.guarantees.specs.Named.{AsksTransfer, Transfers, Names}
use Rattle.guarantees.specs.Accepted.{right, moves_granted}
use Rattle.guarantees.specs.Owners.{moves_deed, Gives, moves, names, inside_or_not}
use Rattle.origin_theorems.specs.Rows.{row_any, done_moves}

-- ---- values
pub status_zero : (why : Status) → status_byte why ≡ 0 → why ≡ Status.Accepted
status_zero Status.Accepted e = refl
status_zero Status.NoHex e = absurd (omega arith)
status_zero Status.Unknown e = absurd (omega arith)
status_zero Status.Misplaced e = absurd (omega arith)
status_zero Status.OutOfRange e = absurd (omega arith)
status_zero Status.Clash e = absurd (omega arith)

pub done_is : (a : Answer) → is_done a ≡ true → a ≡ Answer.Done
done_is Answer.Version e = cc
done_is Answer.PowerVersion e = cc
done_is Answer.Done e = refl
done_is Answer.On e = cc
done_is Answer.Off e = cc
done_is Answer.Pending e = cc
done_is (Answer.Owns is) e = cc
done_is (Answer.Leads phys attr) e = cc
done_is (Answer.Count n) e = cc
done_is Answer.Silent e = cc
done_is (Answer.No r) e = cc

-- the run that a call asks for
asks_span : {v : Caller} {a : Args} {h k start count to : ℕ} → Asks v a h k start count to → (w : Window) (lowest : ℕ) → run_of w start count ≡ Some lowest
    → span_by w a (any_row a k) ≡ Pages lowest count
asks_span {a = a} {h = h} {k = k} (by_row_lem t e) w lowest l = rw (row_any a h k t e, l)

call_is : {c d : ℕ} → Frame.Call c ≡ Frame.Call d → c ≡ d
call_is e = cc

module _ (m : Machine) (fit : Fit m) (e : Event) (page : ℕ) (t : List ℕ) (whole : WholeOrigins t) (line : ℕ) where
  -- the table after the line
  abbrev pub after : List ℕ
  after = noted t line (named (window m.setup) e.0 e.1 (came m e.0 e.1))

  inside_marked : (lowest count : ℕ) → named (window m.setup) e.0 e.1 (came m e.0 e.1) ≡ Pages lowest count → lowest + count ≤ most_pages
      → lowest ≤ page → page < lowest + count → origin after page ≡ line
  unfolding noted
  inside_marked lowest count s b h l = rw s (marked_inside t lowest count line page whole b h l)

  -- ---- an accepted call
  module _ (core : ℕ) (is : e.0 ≡ Frame.Call core) (ok : Taken (reply m e)) where
    pub came_called : came m e.0 e.1 ≡ Called (called (state_of m) core e.1).1
    came_called =
        came_by m e.1 (λ (f : Frame) (o : Machine × Reply) (c : Came). e.0 ≡ f → framed m e.0 e.1 ≡ o → c ≡ Called (called (state_of m) core e.1).1)
        (λ f last why k i so. absurd (ok why (ap (λ (o : Machine × Reply). o.1) so)))
        (λ c a b d i so. rw (call_is (sym i ∙ is)))
        e.0 refl refl

    -- it asks for the pages of its run
    pub asks_pages : (start count to lowest : ℕ) → AsksTransfer m core e.1 start count to → run_of (window m.setup) start count ≡ Some lowest → asked_by (window m.setup) e.1 ≡ Pages lowest count
    unfolding asked_by
    asks_pages start count to lowest a l = asks_span a.so (window m.setup) lowest l

  -- ---- a granted transfer
  module _ (to : ℕ) (g : Transfers m e page to) where
    answer_done : answer_in (state_of m) g.core e.1 ≡ Answer.Done
    answer_done =
        (called_for (sight (state_of m) g.core) e.1 (Move g.lowest g.count to) (λ k. let z : ◌≡◌ {A = ℕ} 0 1 = cc in omega arith) (moves_deed fit g)).so.1

    names_pages : named (window m.setup) e.0 e.1 (came m e.0 e.1) ≡ Pages g.lowest g.count
    unfolding named called pick
    names_pages = rw (came_called g.core g.is_call g.accepted, answer_done) (asks_pages g.core g.is_call g.accepted g.start g.count to g.lowest g.asks g.lies)

    transfer_marks : origin after page ≡ line
    transfer_marks =
        let r = run_is (window m.setup) (right m fit e g.core g.is_call g.accepted).window g.start g.count g.lowest g.lies in
        inside_marked g.lowest g.count names_pages (omega (arith, r.inside, r.most)) g.low g.high

  -- ---- an accepted set-up line
  module _ (to : ℕ) (g : Names m e page to) where
    pub came_told : came m e.0 e.1 ≡ Told Status.Accepted
    came_told =
        came_by m e.1 (λ (f : Frame) (o : Machine × Reply) (c : Came). e.0 ≡ f → framed m e.0 e.1 ≡ o → c ≡ Told Status.Accepted)
        (λ f last why k is so. let z : Reply.Told why ≡ Reply.Told Status.Accepted = sym (ap (λ (o : Machine × Reply). o.1) so) ∙ g.accepted in let y : why ≡ Status.Accepted = cc in rw y)
        (λ core a b c is so. absurd (omega (arith, ap byte (sym g.is_name ∙ is))))
        e.0 refl refl

    inside_table : g.lowest + g.count ≤ most_pages
    inside_table =
        framed_by m e.1 (λ (f : Frame) (o : Machine × Reply). e.0 ≡ f → framed m e.0 e.1 ≡ o → g.lowest + g.count ≤ most_pages)
        (λ why is so. other is (λ k. omega arith))
        (λ f why d is so. absurd (let k : Reply.Told why ≡ Reply.Told Status.Accepted = sym (ap (λ (o : Machine × Reply). o.1) so) ∙ g.accepted in d cc))
        (λ base pages cores a b is so. other is (λ k. omega arith))
        (λ lowest last kind number a b c is so. other is (λ k. omega arith))
        (λ lowest count u a b c is so.
        let k : Frame.Name g.lowest g.count to ≡ Frame.Name lowest count u = sym g.is_name ∙ is in
        let x : g.lowest ≡ lowest = cc in
        let y : g.count ≡ count = cc in
        let r = (naming_granted m.owners m.named (window m.setup).pages lowest count u c).range in
        omega (arith, r.inside, r.most))
        (λ core a b c is so. other is (λ k. omega arith))
        (λ core a b c is so. other is (λ k. omega arith))
        e.0 refl refl
      where
        other : {P : Type 0} {f : Frame} → e.0 ≡ f → (0x12 ≡ byte f → ⊥) → P
        other is n = absurd (n (ap byte (sym g.is_name ∙ is)))

    pub names_run : named (window m.setup) e.0 e.1 (came m e.0 e.1) ≡ Pages g.lowest g.count
    unfolding named pick
    names_run = rw (came_told, g.is_name)

    name_marks : origin after page ≡ line
    name_marks = inside_marked g.lowest g.count names_run inside_table g.low g.below

  -- A line that names the page's owner is noted for the page.
  pub gives_marks : (to : ℕ) → Gives m e page to → origin after page ≡ line
  gives_marks to (moves g) = transfer_marks to g
  gives_marks to (names g) = name_marks to g

  -- ---- no other line is
  module _ (none : (to : ℕ) → Gives m e page to → ⊥) where
    abbrev Still : Option Span → Type 0
    Still s = origin (noted t line s) page ≡ origin t page

    outside_still : (lowest count : ℕ) → (lowest ≤ page → page < lowest + count → ⊥) → Still (Pages lowest count)
    unfolding noted
    outside_still lowest count d = marked_outside t lowest count line page d

    no_pages : Still None
    unfolding noted
    no_pages = refl

    frame_still : (f : Frame) → e.0 ≡ f → reply m e ≡ Reply.Told Status.Accepted → Still (named_in f)
    frame_still (Frame.Site base pages cores) is told = no_pages
    frame_still (Frame.Entry lowest last kind number) is told = no_pages
    frame_still (Frame.Name lowest count to) is told =
        inside_or_not lowest count page
        (λ h l. absurd (none to (names (record { lowest = lowest; count = count; is_name = is; accepted = told; low = h; below = l })))) (outside_still lowest count)
    frame_still (Frame.Call core) is told = no_pages
    frame_still (Frame.Arrival core) is told = no_pages
    frame_still (Frame.Refused why) is told = no_pages

    module _ (core : ℕ) (is : e.0 ≡ Frame.Call core) (ok : Taken (reply m e)) (d : answer_in (state_of m) core e.1 ≡ Answer.Done) where
      row_still : (r : Option Transfer) → any_row (args_of (called_by e.1) e.1) (key e.1) ≡ r → Still (span_by (window m.setup) (args_of (called_by e.1) e.1) r)
      row_still None k = no_pages
      row_still (Some q) k =
          let v = done_moves (sight (state_of m) core) e.1 q k d in
          let g = moves_granted m fit e core is ok v.run.first q.count v.to v.run.moves in
          rw v.run.lies
          (inside_or_not v.run.first q.count page
          (λ h l. absurd (none v.to (moves (record { core = core; is_call = is; accepted = ok; start = g.start; count = q.count; asks = g.asks; granted = g.told; lowest = v.run.first; lies = g.lies; low = h; high = l }))))
          (outside_still v.run.first q.count))

      call_still : Still (asked_by (window m.setup) e.1)
      unfolding asked_by
      call_still = row_still (any_row (args_of (called_by e.1) e.1) (key e.1)) refl

    -- Any other line leaves what was noted.
    pub none_marks : origin after page ≡ origin t page
    unfolding named performed called
    none_marks =
        came_by m e.1 (λ (f : Frame) (o : Machine × Reply) (c : Came). e.0 ≡ f → framed m e.0 e.1 ≡ o → Still (named (window m.setup) e.0 e.1 c))
        (λ f last why k is so.
        chosen Still (eqb (status_byte why) 0) _ _
        (λ y. frame_still e.0 refl (ap (λ (o : Machine × Reply). o.1) so ∙ ap Reply.Told (status_zero why (eqb-true _ _ y)))) (λ n. no_pages))
        (λ core a b c is so.
        chosen Still (is_done (answer_in (state_of m) core e.1)) _ _
        (λ y. call_still core is (λ why k. shown_not_told _ _ _ _ why (sym (ap (λ (o : Machine × Reply). o.1) so) ∙ k)) (done_is _ y)) (λ n. no_pages))
        e.0 refl refl
