-- A call that is a transfer by its identifier, and is done, moves the very pages that it asks for, whichever handler it reached.
use Rattle.std.proofs.Math.Path.{◌≡◌, refl, sym}
use Rattle.std.proofs.Common.{ap, ◌∙◌, arith}
use Rattle.std.specs.Prelude.{true, List, ℕ, eqb, None, Option, Some}
use borrow.Author.Tests.{eqb-true, eqb-false, ne_eqb}
use Rattle.rules.specs.Choice.{pick, chosen, either}
use Rattle.rules.specs.Tests.{sieve, sieved}
use Rattle.rules.specs.Sizes.{secure, normal}
use Rattle.rules.specs.declared.Reason.{Reason}
use Rattle.rules.specs.declared.Reason.TheVariants as Reason
use Rattle.identifiers.specs.Identifier.{admitted}
use Rattle.ledger.specs.Ledger.{handler}
use Rattle.judgements.specs.Names.{granule_to_realm, granule_to_normal, take_pages, give_pages}
use Rattle.judgements.specs.Judge.{HandlerSight, Sight, denied, called_by, args_of, Listed, transfers, row_in, row_of, architecture, board, handing, handing_to_realm, realm_call, standard, trusted, by_number, by_row, by_handler, judged}
use Rattle.judgements.specs.Asked.{key, by_row_lem}
use Rattle.judgements.proofs.Asked.{judged_by_lem}
use Rattle.judgements.specs.Decided.{Decided, done, refused, MovesRun}
use Rattle.judgements.proofs.Decided.{asked_transfer}
use Rattle.judgements.specs.declared.Answer.{Answer}
use Rattle.judgements.specs.declared.Answer.TheVariants as Answer
use Rattle.judgements.specs.declared.Judged.{Judged}
use Rattle.judgements.specs.declared.Args.{Args}
use Rattle.judgements.specs.declared.Transfer.{Transfer}
use Rattle.spans.specs.Spans.{any_row}

-- ---- the four identifiers
pub by_key : (P : ℕ → Type 0) (k : ℕ) → P granule_to_realm → P granule_to_normal → P take_pages → P give_pages
    → ((k ≡ granule_to_realm → ⊥) → (k ≡ granule_to_normal → ⊥) → (k ≡ take_pages → ⊥) → (k ≡ give_pages → ⊥) → P k) → P k
by_key P k a b c d other =
    either (eqb k granule_to_realm) (λ y. rw (eqb-true k granule_to_realm y) a)
    (λ e. either (eqb k granule_to_normal) (λ y. rw (eqb-true k granule_to_normal y) b)
    (λ f. either (eqb k take_pages) (λ y. rw (eqb-true k take_pages y) c)
    (λ g. either (eqb k give_pages) (λ y. rw (eqb-true k give_pages y) d)
    (λ h. other (eqb-false k granule_to_realm e) (eqb-false k granule_to_normal f) (eqb-false k take_pages g) (eqb-false k give_pages h)))))

no_row : {P : Type 0} {t : Transfer} → None ≡ Some t → P
no_row e = let z : ◌≡◌ {A = ℕ} 0 1 = cc in absurd (omega arith)

-- a row is the same in the one table of both handlers
pub row_any : (a : Args) (h k : ℕ) (t : Transfer) → row_of a h k ≡ Some t → any_row a k ≡ Some t
unfolding any_row row_in pick
row_any a h k t =
    chosen (λ (ls : List Listed). row_in ls k ≡ Some t → any_row a k ≡ Some t) (eqb h 2) _ _ (λ y e. rw e)
    (λ n. chosen (λ (ls : List Listed). row_in ls k ≡ Some t → any_row a k ≡ Some t) (eqb h 1) _ _ (λ y. by_key (λ (k : ℕ). row_in (transfers 1 a) k ≡ Some t → any_row a k ≡ Some t) k no_row no_row (λ e. e) (λ e. e) (λ b c d f e. no_row (sym (rw (ne_eqb k take_pages d, ne_eqb k give_pages f)) ∙ e))) (λ m e. no_row e))

-- ---- a handler that has no row for it does not do such a call
abbrev pub NotDone : Judged → Type 0
NotDone j = j.answer ≡ Answer.Done → ⊥

pub no_not : (r : Reason) → NotDone (denied r)
no_not r e = let z : ◌≡◌ {A = ℕ} 0 1 = cc in omega arith

some_row : {P : Type 0} {t : Transfer} {r : Option Transfer} → r ≡ Some t → r ≡ None → P
some_row e f = no_row (sym f ∙ e)

module _ (s : HandlerSight) (a : Args) where
  pub handed_not : (to : ℕ) → NotDone (handing to s.caller)
  unfolding handing
  handed_not to = sieved NotDone denied _ _ no_not (λ c e. let z : ◌≡◌ {A = ℕ} 0 1 = cc in omega arith)

  pub by_handlers : (h k : ℕ) → NotDone (architecture a k) → (h ≡ 1 → NotDone (board s a k)) → (h ≡ 2 → NotDone (standard s.caller s.powers s.owners a k)) → NotDone (trusted s.caller k)
      → NotDone (by_number s a k h)
  unfolding by_number
  by_handlers h k zero one two three =
      chosen NotDone _ _ _ (λ e. zero)
      (λ e. chosen NotDone _ _ _ (λ e. one (eqb-true h 1 e))
      (λ e. chosen NotDone _ _ _ (λ e. two (eqb-true h 2 e))
      (λ e. chosen NotDone _ _ _ (λ e. three) (λ e. no_not Reason.Unserved))))

  other_not : (h k : ℕ) (t : Transfer) → any_row a k ≡ Some t → row_of a h k ≡ None → NotDone (by_number s a k h)
  unfolding any_row row_in architecture board standard realm_call handing_to_realm trusted sieve pick
  other_not h k t =
      by_key (λ (k : ℕ). any_row a k ≡ Some t → row_of a h k ≡ None → NotDone (by_number s a k h)) k
      (λ is n. by_handlers h granule_to_realm (no_not Reason.Unserved) (λ e. no_not Reason.Unserved) (λ e. some_row refl (rw e at n)) (handed_not secure))
      (λ is n. by_handlers h granule_to_normal (no_not Reason.Unserved) (λ e. no_not Reason.Unserved) (λ e. some_row refl (rw e at n)) (handed_not secure))
      (λ is n. by_handlers h take_pages (no_not Reason.Unserved) (λ e. some_row refl (rw e at n)) (λ e. no_not Reason.Unserved) (handed_not secure))
      (λ is n. by_handlers h give_pages (no_not Reason.Unserved) (λ e. some_row refl (rw e at n)) (λ e. no_not Reason.Unserved) (handed_not secure))
      (λ b c d f is n. no_row (sym (rw (ne_eqb k granule_to_realm b, ne_eqb k granule_to_normal c, ne_eqb k take_pages d, ne_eqb k give_pages f)) ∙ is))

-- ---- the whole judgement
module _ (s : Sight) (xs : List ℕ) (t : Transfer) (is : any_row (args_of (called_by xs) xs) (key xs) ≡ Some t) where
  abbrev args : Args
  args = args_of (called_by xs) xs

  -- the pages, and where they go
  pub record Moved (j : Judged) : Type 0 where
    pub to : ℕ
    pub run : MovesRun s.inner.caller.window args.x1 t.count to j.deed

  decided_done : {to : ℕ} (j : Judged) → Decided Answer.Done (MovesRun s.inner.caller.window args.x1 t.count to) j → j.answer ≡ Answer.Done → Moved j
  decided_done {to} j (done a r) e = record { to = to; run = r }
  decided_done j (refused r a) e = let z : Answer.No r ≡ Answer.Done = sym a ∙ e in let y : ◌≡◌ {A = ℕ} 0 1 = cc in absurd (omega arith)

  by_its_row : (h : ℕ) → admitted (called_by xs) ≡ true → handler s.ledger (called_by xs).fast (called_by xs).owner ≡ Some h → (r : Option Transfer) → row_of args h (key xs) ≡ r
      → judged s xs ≡ by_handler s.inner args (key xs) h → (judged s xs).answer ≡ Answer.Done → Moved (judged s xs)
  unfolding by_row
  by_its_row h ok l (Some q) e so d =
      let same : Some q ≡ Some t = sym (row_any args h (key xs) q e) ∙ is in
      let z : q ≡ t = cc in
      decided_done (judged s xs) (asked_transfer s xs args.x1 t.count (pick t.takes s.inner.caller.world normal) (record { passes = ok; number = h; reached = l; so = by_row_lem t (e ∙ same) })) d
  by_its_row h ok l None e so d =
      let z : by_handler s.inner args (key xs) h ≡ by_number s.inner args (key xs) h = rw e in
      absurd (other_not s.inner args h (key xs) t is e (sym (ap (λ (j : Judged). j.answer) (so ∙ z)) ∙ d))

  -- What is done moves the pages that it asks for.
  pub done_moves : (judged s xs).answer ≡ Answer.Done → Moved (judged s xs)
  done_moves d =
      judged_by_lem s xs (λ (j : Judged). judged s xs ≡ j → Moved (judged s xs))
      (λ r e. absurd (no_not r (sym (ap (λ (j : Judged). j.answer) e) ∙ d)))
      (λ h ok l e. by_its_row h ok l (row_of args h (key xs)) refl e d) refl
