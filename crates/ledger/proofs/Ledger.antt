-- What becomes of a ledger entry, and what the ledger then answers.
use Rattle.std.specs.Prelude.{◌≡◌, refl, true, false, ◌&&◌, List, ℕ, ◌+◌, ◌≤◌, ◌<◌, ltb, Err, None, Ok, Result, Some, ⊤}
use Rattle.std.proofs.Common.{sym, ap, ◌∙◌, arith}
use borrow.Author.Tests.{ltb-true, ltb-false}
use Rattle.rules.specs.declared.Fault.TheVariants.{OutOfRange, Taken}
use Rattle.rules.specs.declared.Fault.{Fault}
use Rattle.rules.specs.Sizes.{last_owner, last_kind, last_handler}
use Rattle.rules.specs.Choice.{pick, chosen, pick_yes, pick_no, either, yes_or_no, both_true, left_true, right_true}
use Rattle.rules.specs.Tests.{sieve}
use Rattle.tools.specs.Search.{any, any_not, any_if_not}
use Rattle.ledger.specs.Places.{named, naming, recorded_used, recorded_in, recorded_out}
use Rattle.ledger.specs.Room.{not_taken, taken_not, room, recorded_proper}
use Rattle.ledger.specs.Places.{handler, used, recorded}
use Rattle.ledger.specs.Room.{Proper}
use Rattle.ledger.specs.Places.{names}
use Rattle.ledger.specs.Room.{taken}
use Rattle.ledger.specs.Ledger.{Free, Ranged, entered, is_accepted, is_accepted_lem}

module _ (t : List ℕ) (first last kind number : ℕ) where
  module _ (P : Result ⊤ Fault × List ℕ → Type 0)
      (outside : (Ranged first last kind number → ⊥) → P ((Err OutOfRange), t))
      (clash : Ranged first last kind number → (Free t first last kind → ⊥) → P ((Err Taken), t))
      (done : Ranged first last kind number → Free t first last kind → P ((Ok tt), recorded t first last kind number)) where
    pub entered_by : P (entered t first last kind number)
    unfolding entered sieve
    entered_by =
        chosen P (ltb last first) _ _ (λ e. outside (λ r. omega (arith, ltb-true last first e)))
        (λ a. chosen P (ltb last_owner last) _ _ (λ e. outside (λ r. omega (arith, ltb-true last_owner last e)))
        (λ b. chosen P (ltb last_kind kind) _ _ (λ e. outside (λ r. omega (arith, ltb-true last_kind kind e)))
        (λ c. chosen P (ltb last_handler number) _ _ (λ e. outside (λ r. omega (arith, ltb-true last_handler number e)))
        (λ d.
        let r : Ranged first last kind number = record { order = ltb-false last first a; owners = ltb-false last_owner last b; kinds = ltb-false last_kind kind c; handlers = ltb-false last_handler number d } in
        chosen P (any (taken t kind) first _) _ _
        (λ e. clash r (λ f. yes_or_no _ e (any_if_not (taken t kind) first _ (λ o h l. not_taken t kind o (f o h (omega arith))))))
        (λ e. done r (λ o h l. taken_not t kind o (any_not (taken t kind) first _ o e h (omega arith))))))))

  pub accepted_where : Ranged first last kind number → Free t first last kind → entered t first last kind number ≡ ((Ok tt), recorded t first last kind number)
  accepted_where r f =
      entered_by (λ (o : Result ⊤ Fault × List ℕ). o ≡ ((Ok tt), recorded t first last kind number)) (λ m. absurd (m r)) (λ s n. absurd (n f)) (λ s g. refl)

  -- an accepted entry was in range, and its pairs were free
  pub record Granted : Type 0 where
    pub ranged : Ranged first last kind number
    pub free : Free t first last kind

  pub granted : (entered t first last kind number).0 ≡ (Ok tt) → Granted
  granted =
      entered_by (λ (o : Result ⊤ Fault × List ℕ). o.0 ≡ (Ok tt) → Granted) (λ m e. absurd (let z : ◌≡◌ {A = ℕ} 0 1 = cc in omega arith))
      (λ r n e. absurd (let z : ◌≡◌ {A = ℕ} 0 1 = cc in omega arith)) (λ r f e. record { ranged = r; free = f })

  -- a refused one leaves the ledger as it was
  pub refused_same : ((entered t first last kind number).0 ≡ (Ok tt) → ⊥) → (entered t first last kind number).1 ≡ t
  refused_same = entered_by (λ (o : Result ⊤ Fault × List ℕ). (o.0 ≡ (Ok tt) → ⊥) → o.1 ≡ t) (λ m n. refl) (λ r f n. refl) (λ r f n. absurd (n refl))

  -- an accepted one finds a free place
  pub has_room : Proper t → Granted → used t < 128
  has_room w g = room t kind first w g.ranged.kinds (omega (arith, g.ranged.order, g.ranged.owners)) (g.free first (omega arith) g.ranged.order)

  -- and gives its handler to the pairs that it covers
  pub covered : Proper t → (entered t first last kind number).0 ≡ (Ok tt) → (owner : ℕ) → first ≤ owner → owner ≤ last
      → handler (entered t first last kind number).1 kind owner ≡ Some number
  covered w e owner h l =
      let g = granted e in
      rw (accepted_where g.ranged g.free)
      (recorded_in t first last kind number w.sized (has_room w g) g.ranged.order g.ranged.owners g.ranged.kinds g.ranged.handlers owner h l (g.free owner h l))

  -- and every other pair keeps what it had
  pub uncovered : (k o : ℕ) → (k ≡ kind → first ≤ o → o ≤ last → ⊥) → handler (entered t first last kind number).1 k o ≡ handler t k o
  uncovered k o apart =
      entered_by (λ (r : Result ⊤ Fault × List ℕ). handler r.1 k o ≡ handler t k o) (λ m. refl) (λ r f. refl)
      (λ r f. recorded_out t first last kind number r.order r.owners r.kinds r.handlers k o apart)

  -- both in one: the handler of any pair after any attempt at an entry
  pub handler_after : Proper t → (k o : ℕ) → handler (entered t first last kind number).1 k o
      ≡ pick (is_accepted (entered t first last kind number).0 && names first last kind k o) (Some number) (handler t k o)
  handler_after w k o =
      either (is_accepted (entered t first last kind number).0 && names first last kind k o)
      (λ y.
      let p = named first last kind k o (right_true (is_accepted (entered t first last kind number).0) _ y) in
      rw p.0 (covered w (is_accepted_lem _ (left_true _ _ y)) o p.1 p.2) ∙ sym (pick_yes _ _ _ y))
      (λ n.
      either (names first last kind k o)
      (λ c. ap (λ (u : List ℕ). handler u k o) (refused_same (λ e. yes_or_no _ (both_true _ _ (ap is_accepted e) c) n)))
      (λ c. uncovered k o (λ e h l. yes_or_no _ (naming first last kind k o e h l) c))
      ∙ sym (pick_no _ _ _ n))

  pub handler_before : (k o : ℕ) → (is_accepted (entered t first last kind number).0 && names first last kind k o) ≡ true → handler t k o ≡ None
  handler_before k o y =
      let p = named first last kind k o (right_true (is_accepted (entered t first last kind number).0) _ y) in
      rw p.0 ((granted (is_accepted_lem _ (left_true _ _ y))).free o p.1 p.2)

  -- each accepted entry takes a place
  pub used_after : Proper t → used (entered t first last kind number).1 ≡ pick (is_accepted (entered t first last kind number).0) (used t + 1) (used t)
  used_after w =
      entered_by (λ (o : Result ⊤ Fault × List ℕ). used o.1 ≡ pick (is_accepted o.0) (used t + 1) (used t)) (λ m. sym (pick_no false _ _ refl)) (λ r f. sym (pick_no false _ _ refl))
      (λ r f. recorded_used t first last kind number w.sized (has_room w (record { ranged = r; free = f })) ∙ sym (pick_yes true _ _ refl))

  pub entered_proper : Proper t → Proper (entered t first last kind number).1
  entered_proper w = entered_by (λ (o : Result ⊤ Fault × List ℕ). Proper o.1) (λ m. w) (λ r f. w)
      (λ r f. recorded_proper t first last kind number w r.order r.owners r.kinds r.handlers (f first (omega arith) r.order))
