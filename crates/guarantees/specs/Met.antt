-- What a granted transfer met, and a granted start: whose the pages were, and how the core stood; and which transfers are granted.
use Rattle.std.specs.Prelude.{◌≡◌, refl, Bool, true, false, List, ℕ, ◌+◌, ◌-◌, ◌*◌, ◌/◌, ◌%◌, ◌≤◌, eqb, ltb, leb, None, Ok, Option, Some}
use Rattle.std.proofs.Common.{sym, subst, ◌∙◌, ⊎_elim, arith}
use borrow.Author.Tests.{eqb-true, eq-eqb, ne_eqb, ltb-true, ltb-false, leb-true, leb-false}
use Rattle.rules.specs.Choice.{pick, pick_yes, pick_no, by, either, chosen, yes_or_no, left_true, right_true}
use Rattle.rules.specs.Sizes.{secure, normal, realm, last_world, page_size}
use Rattle.pages.specs.Window.{acceptable, page_of, run_of, run_is, InPage, page_at, page_below, page_past}
use Rattle.pages.specs.Owners.{owner, owned_if}
use Rattle.pages.specs.declared.Window.{Window}
use Rattle.mapping.proofs.Sound.{unmet_run, unmet_if}
use Rattle.ranges.specs.declared.Mapping.{Mapping}
use Rattle.transfers.proofs.Granted.{transfer_granted, movable_granted, moved_from}
use Rattle.judgements.specs.Judge.{owned_at, good_start}
use Rattle.judgements.specs.Grounds.{Takes, Between}
use Rattle.judgements.proofs.Grounds.{grounded}
use Rattle.judgements.specs.Grounds.Between.{to_caller, to_normal}
use Rattle.judgements.specs.Granted.{move_verdict}
use Rattle.judgements.specs.declared.Deed.TheVariants.{Move, Start}
use Rattle.calls.specs.Step.{State, sight}
use Rattle.calls.specs.Effects.{deed_in, moves}
use Rattle.calls.specs.Right.{Right}
use Rattle.frames.specs.Frames.{Machine, state_of}
use Rattle.guarantees.specs.Statements.{window, mapped, caller, giver, Had, Startable}

-- ---- a place that this owner has
record OwnedPlace (o : List ℕ) (p : Option ℕ) : Type 0 where
  page : ℕ
  is : p ≡ Some page
  owned : owner o page ≡ normal

owned_place : (o : List ℕ) (p : Option ℕ) → owned_at o p normal ≡ true → OwnedPlace o p
unfolding owned_at
owned_place o (Some page) e = record { page = page; is = refl; owned = eqb-true _ _ e }
owned_place o None e = absurd (yes_or_no _ e refl)

-- the page that an address is found in holds it
not_outside : {p : Option ℕ} {page : ℕ} → p ≡ Some page → p ≡ None → ⊥
not_outside e f = let z : ◌≡◌ {A = ℕ} 0 1 = cc in omega arith

in_page : (w : Window) (address page : ℕ) → page_of w address ≡ Some page → InPage w address page
in_page w address page e =
    either (ltb address w.base) (λ y. absurd (not_outside e (page_below w address (ltb-true _ _ y))))
    (λ n. either (leb (w.base + page_size * w.pages) address) (λ y. absurd (not_outside e (page_past w address (leb-true _ _ y))))
    (λ k.
    let low = ltb-false address w.base n in
    let high = leb-false (w.base + page_size * w.pages) address k in
    let p : ℕ = (address - w.base) / page_size in
    let i : InPage w address p = record { low = omega arith; high = omega arith; inside = omega arith } in
    let q : Some p ≡ Some page = sym (page_at w address p i) ∙ e in
    let z : p ≡ page = cc in
    subst (λ (n : ℕ). InPage w address n) z i))

module _ (m : Machine) (core : ℕ) (xs : List ℕ) where
  abbrev s : State
  s = state_of m

  -- the judgement looks at the giver's list
  gives : (from to : ℕ) (list : List Mapping) → Between (sight s core).inner from to list → Takes (caller m core xs) → (giver m core xs to ≡ from) × (list ≡ mapped m from)
  gives from to list to_caller t =
      let n : caller m core xs ≡ normal → ⊥ = λ e. ⊎_elim (λ (k : caller m core xs ≡ secure). omega arith) (λ (k : caller m core xs ≡ realm). omega arith) t in
      (pick_no _ _ _ (ne_eqb (caller m core xs) normal n), refl)
  gives from to list to_normal t = (pick_yes _ _ _ (eq-eqb normal normal refl), refl)

  pub had : acceptable (window m) ≡ true → (start count first to : ℕ) → run_of (window m) start count ≡ Some first → deed_in s core xs ≡ Move first count to
      → Takes (caller m core xs) × Had m (giver m core xs to) start count
  had ok start count first to l d =
      let g = moves s core xs first count to d in
      let b = gives g.from to g.list g.between g.caller in
      let v = (transfer_granted (window m) m.owners g.list g.from g.start count first g.verdict).0 in (
        g.caller,
        rw b.0 (record {
          some = g.some;
          first = first;
          lies = l;
          owned = λ page h k. moved_from (window m) m.owners g.list g.from g.start count first v page h k;
          unmapped = λ page h k. rw (sym b.1) (unmet_run (window m) g.list g.start count first ok v.lies v.unmet page h k);
        }),
      )

  -- a run that the giver has whole and unmapped gets a verdict that grants it
  pub movable : Right s → caller m core xs ≤ last_world → (start count to : ℕ) → (h : Had m (giver m core xs to) start count) → move_verdict (sight s core).inner start count to ≡ Ok h.first
  movable r few start count to h =
      let i = run_is (window m) r.window start count h.first h.lies in
      let b = eqb to normal in
      let from : giver m core xs to ≤ last_world = chosen (λ (w : ℕ). w ≤ last_world) b (caller m core xs) normal (λ y. few) (λ n. omega arith) in
      let list : pick b (mapped m (caller m core xs)) (mapped m normal) ≡ mapped m (giver m core xs to) =
      by (λ (c : Bool). pick c (mapped m (caller m core xs)) (mapped m normal) ≡ mapped m (pick c (caller m core xs) normal)) b
      (λ y. rw (pick_yes true (mapped m (caller m core xs)) (mapped m normal), pick_yes {A = ℕ} true (caller m core xs) normal))
      (λ n. rw (pick_no false (mapped m (caller m core xs)) (mapped m normal), pick_no {A = ℕ} false (caller m core xs) normal)) in
      rw list
      (movable_granted (window m) m.owners (mapped m (giver m core xs to)) (giver m core xs to) start count h.first
      (record {
        lies = h.lies;
        mine = owned_if m.owners h.first count (giver m core xs to) (window m).pages r.packed i.most i.inside from h.owned;
        unmet = unmet_if (window m) (mapped m (giver m core xs to)) start count h.first i.starts h.some h.unmapped;
      })
      (λ z. omega (arith, h.some)))

  pub startable : (c a x : ℕ) → deed_in s core xs ≡ Start c a x → (caller m core xs ≡ normal) × Startable m c a
  unfolding good_start
  startable c a x d =
      let g = rw d at (grounded (sight s core) xs).stands in
      let p = owned_place m.owners (page_of (window m) a) (right_true (eqb (a % 4) 0) _ g.good) in (
        g.caller,
        record {
          exists = g.exists;
          not_on = g.not_on;
          not_pending = g.not_pending;
          fourth = eqb-true (a % 4) 0 (left_true (eqb (a % 4) 0) _ g.good);
          page = p.page;
          inside = in_page (window m) a p.page p.is;
          owned = p.owned;
        },
      )
