-- The history of a page misses no line that asks for its transfer or names its owner.
use Rattle.std.specs.Prelude.{◌≡◌, true, leb, ltb, Option, Some}
use Prim.Native.Nat.{ℕ, ◌+◌, ◌*◌, ◌/◌, ◌≤◌, ◌<◌}
use Rattle.std.proofs.Common.{arith, le-leb, lt-ltb, leb-true, ltb-true}
use Rattle.spans.specs.Named.{Pages}
use Rattle.rules.specs.Choice.{chosen, both_true, left_true, right_true, first_or}
use Rattle.rules.specs.Sizes.{page_size}
use Rattle.pages.specs.Window.{accepted, acceptable, pages_to, holds_address, page_of, InPage, page_at, run_is}
use Rattle.pages.specs.declared.Window.{Window}
use Rattle.judgements.specs.Asked.{Asks, by_row_lem}
use Rattle.judgements.specs.Decided.{Decided, done, refused}
use Rattle.judgements.proofs.Decided.{asked_transfer}
use Rattle.judgements.specs.declared.Answer.TheVariants as Answer
use Rattle.judgements.specs.declared.Args.{Args}
use Rattle.judgements.specs.declared.Caller.{Caller}
use Rattle.judgements.specs.declared.Judged.{Judged}
use Rattle.calls.specs.Step.{sight, called}
use Rattle.parsing.specs.declared.Frame.TheVariants as Frame
use Rattle.parsing.specs.declared.Status.TheVariants.{Accepted}
use Rattle.setup.specs.Table.{window}
use Rattle.outcomes.specs.declared.Came.TheVariants.{Told}
use Rattle.frames.specs.Frames.{Machine, state_of}
use Rattle.origins.specs.Origins.{none, none_whole}
use Rattle.spans.specs.Spans.{any_row, named, over_page, over_by, asks_over, is_verdict}
use Rattle.views.specs.Views.{holds, about, shows, shown}
use Rattle.views.specs.declared.View.TheVariants as View
use Rattle.guarantees.specs.Runs.{Event, reply, Taken}
use Rattle.guarantees.specs.Fit.{Fit}
use Rattle.guarantees.specs.Named.{AsksTransfer}
use Rattle.guarantees.specs.Accepted.{right}
use Rattle.guarantees.specs.Owners.{Gives, moves, names}
use Rattle.origin_theorems.specs.Rows.{row_any}
use Rattle.origin_theorems.specs.Marked.{came_called, came_told, names_run}

pub holds_inside : (first count page : ℕ) → first ≤ page → page < first + count → holds (Pages first count) (Some page) ≡ true
unfolding holds
holds_inside first count page h l = both_true _ _ (le-leb first page h) (lt-ltb page (first + count) l)

-- an address that is asked for and lies in the page of another
pub over_is : (address start count x : ℕ) → x / page_size ≡ address / page_size → start ≤ x → x < start + count * page_size → over_page address start count ≡ true
unfolding over_page
over_is address start count x e l h =
    let at : ℕ = address / page_size * page_size in
    both_true _ _ (lt-ltb 0 count (omega arith)) (both_true _ _ (lt-ltb start (at + page_size) (omega arith)) (lt-ltb at (start + count * page_size) (omega arith)))

-- the page that holds an address
pub page_in : (w : Window) (address page : ℕ) → page_of w address ≡ Some page → InPage w address page
unfolding page_of
page_in w address page =
    chosen (λ (p : Option ℕ). p ≡ Some page → InPage w address page) (holds_address w address) _ _
    (λ y e.
    let z : pages_to w address ≡ page = cc in
    let low : w.base ≤ address = leb-true _ _ (left_true (leb w.base address) (ltb (pages_to w address) w.pages) y) in
    let inside : pages_to w address < w.pages = ltb-true _ _ (right_true (leb w.base address) (ltb (pages_to w address) w.pages) y) in
    record { low = omega arith; high = omega arith; inside = omega arith })
    (λ n e. let z : ◌≡◌ {A = ℕ} 0 1 = cc in absurd (omega arith))

-- two addresses of one page of an acceptable window
pub one_page : (w : Window) → acceptable w ≡ true → (address x page : ℕ) → page_of w address ≡ Some page → page_of w x ≡ Some page → x / page_size ≡ address / page_size
one_page w ok address x page e f =
    let k = accepted w ok in
    let a = page_in w address page e in
    let b = page_in w x page f in
    omega (arith, k.aligned, a.low, a.high, b.low, b.high)

asks_over_lem : {v : Caller} {a : Args} {h k start count to : ℕ} → Asks v a h k start count to → (address : ℕ) → over_page address start count ≡ true → over_by address a (any_row a k) ≡ true
asks_over_lem {a = a} {h = h} {k = k} (by_row_lem t e) address o = rw (row_any a h k t e) o

-- what is granted or refused
verdict : {P : _} (j : Judged) → Decided Answer.Done P j → is_verdict j.answer ≡ true
verdict j (done a p) = rw a
verdict j (refused r a) = rw a

module _ (m : Machine) (fit : Fit m) (e : Event) (page address : ℕ) (lies : page_of (window m.setup) address ≡ Some page) where
  -- An accepted call that asks for the transfer of an address in the page is one of its lines, granted or refused, wherever the other addresses lie.
  pub any_asking : (core : ℕ) → e.0 ≡ Frame.Call core → Taken (reply m e) → (start count to x : ℕ) → AsksTransfer m core e.1 start count to
      → start ≤ x → x < start + count * page_size → page_of (window m.setup) x ≡ Some page → shown (View.Page address) m e ≡ true
  unfolding shows about asks_over called
  any_asking core is ok start count to x a l h p =
      let w = window m.setup in
      let o = over_is address start count x (one_page w (right m fit e core is ok).window address x page lies p) l h in
      let d = verdict _ (asked_transfer (sight (state_of m) core) e.1 start count to a) in
      rw (lies, came_called m fit e page none none_whole 0 core is ok) (first_or _ _ (both_true _ _ d (asks_over_lem a.so address o)))

  -- So is every line that names the page's owner.
  pub any_naming : (to : ℕ) → Gives m e page to → shown (View.Page address) m e ≡ true
  unfolding shows about
  any_naming to (moves g) =
      let w = window m.setup in
      let r = run_is w (right m fit e g.core g.is_call g.accepted).window g.start g.count g.lowest g.lies in
      let x : ℕ = w.base + page_size * page in
      any_asking g.core g.is_call g.accepted g.start g.count to x g.asks (omega (arith, r.starts, g.low)) (omega (arith, r.starts, g.high))
      (page_at w x page (record { low = omega arith; high = omega arith; inside = omega (arith, r.inside, g.high) }))
  any_naming to (names g) =
      let c = came_told m fit e page none none_whole 0 to g in
      let z : named (window m.setup) e.0 e.1 (Told Accepted) ≡ Pages g.lowest g.count = rw c at (names_run m fit e page none none_whole 0 to g) in
      rw (lies, c, z) (holds_inside g.lowest g.count page g.low g.below)
