-- A mapping or a transfer that is asked for is judged by its verdict: where that is a grant, the call is done. And where an address leads is told.
use Rattle.std.specs.Prelude.{◌≡◌, Bool, List, ℕ, Err, Ok, Result}
use Rattle.std.proofs.Common.{◌∙◌}
use Rattle.std.proofs.Math.Path.{ap}
use Rattle.std.proofs.Math.Bool.{true, false}
use borrow.Author.Tests.{ne_eqb}
use Rattle.mapping.specs.Leads.{To}
use Rattle.mapping.specs.declared.Grant.TheVariants as Grant
use Rattle.mapping.specs.declared.Grant.{Grant}
use Rattle.rules.specs.Choice.{pick, pick_yes, pick_no, by}
use Rattle.rules.specs.Tests.{sieve}
use Rattle.rules.specs.Sizes.{normal}
use Rattle.rules.specs.declared.Reason.{Reason}
use Rattle.mapping.specs.Mapping.{lead_of}
use Rattle.transfers.specs.Transfer.{transfer_verdict}
use Rattle.judgements.specs.Names.{map_pages, where_leads}
use Rattle.judgements.specs.Judge.{HandlerSight, Sight, one_of, callers, wanted, called_by, args_of, moving, row_in, transferring, by_number, by_row, mapping, leading, board, by_handler, judged}
use Rattle.judgements.specs.Asked.{Asks, by_row_lem, key, Reached}
use Rattle.judgements.proofs.Decided.{found_at}
use Rattle.judgements.specs.declared.Answer.{Answer}
use Rattle.judgements.specs.declared.Answer.TheVariants as Answer
use Rattle.judgements.specs.declared.Judged.{Judged}
use Rattle.judgements.specs.declared.Args.{Args}
use Rattle.judgements.specs.Granted.{MayMove, may_move, move_verdict, pages_both, taker, want_verdict}

module _ (s : HandlerSight) (a : Args) where
  moving_done : (v : Result ℕ Reason) (first count to : ℕ) → v ≡ Ok first → (moving v count to).answer ≡ Answer.Done
  unfolding moving
  moving_done v first count to e = rw e

  asks_moved : (first : ℕ) {h k start count to : ℕ} → Asks s.caller a h k start count to
      → MayMove s.caller.world k → move_verdict s start count to ≡ Ok first → (by_handler s a k h).answer ≡ Answer.Done
  unfolding by_row transferring sieve
  asks_moved first {h} {k} (by_row_lem t e) m g =
      rw (e, may_move t s.caller.world k m (λ z. pages_both a h k t z e), pick_no false)
      (by (λ (b : Bool). move_verdict s a.x1 t.count (pick b s.caller.world normal) ≡ Ok first
      → (pick b (moving (transfer_verdict s.caller.window s.owners s.theirs normal a.x1 t.count) t.count s.caller.world)
      (moving (transfer_verdict s.caller.window s.owners s.own s.caller.world a.x1 t.count) t.count normal)).answer ≡ Answer.Done)
      t.takes
      (λ y f. rw (pick_yes true) (moving_done _ first _ _ (rw (pick_yes {A = ℕ} true s.caller.world normal, ne_eqb s.caller.world normal (taker _ k m), pick_no false s.own s.theirs, pick_no {A = ℕ} false s.caller.world normal) at f)))
      (λ y f. rw (pick_no false) (moving_done _ first _ _ (rw (pick_no {A = ℕ} false s.caller.world normal, pick_yes true s.own s.theirs, pick_yes {A = ℕ} true s.caller.world normal) at f)))
      g)

  map_judged : (h k : ℕ) → (h ≡ 1) × (k ≡ map_pages) → by_handler s a k h ≡ mapping (want_verdict s a) (wanted a)
  unfolding row_in by_row by_number board pick
  map_judged h k is = rw (is.0, is.1)

  where_judged : (h k : ℕ) → (h ≡ 1) × (k ≡ where_leads) → by_handler s a k h ≡ leading (lead_of s.own a.x1)
  unfolding row_in by_row by_number board pick
  where_judged h k is = rw (is.0, is.1)

module _ (s : Sight) (xs : List ℕ) (may : one_of s.inner.caller.world callers ≡ true) where
  abbrev args : Args
  args = args_of (called_by xs) xs

  -- A transfer by a world that may ask for it is done where its verdict is a grant.
  pub asked_moved : (start count to first : ℕ) → Reached s xs (λ h. Asks s.inner.caller args h (key xs) start count to)
      → MayMove s.inner.caller.world (key xs) → move_verdict s.inner start count to ≡ Ok first → (judged s xs).answer ≡ Answer.Done
  asked_moved start count to first r m e = ap (λ (j : Judged). j.answer) (found_at s xs may r) ∙ asks_moved s.inner args first r.so m e

  module _ (r : Reached s xs (λ h. (h ≡ 1) × (key xs ≡ map_pages))) where
    want_judged : judged s xs ≡ mapping (want_verdict s.inner args) (wanted args)
    want_judged = found_at s xs may r ∙ map_judged s.inner args r.number (key xs) r.so

    -- So is a mapping,
    pub asked_mapped : want_verdict s.inner args ≡ (Ok Grant.Hold) → (judged s xs).answer ≡ Answer.Done
    unfolding mapping
    asked_mapped e = ap (λ (j : Judged). j.answer) want_judged ∙ rw e

    -- and where its verdict is a refusal, the call is refused for the same reason.
    pub asked_unmappable : (q : Reason) → want_verdict s.inner args ≡ Err q → (judged s xs).answer ≡ Answer.No q
    unfolding mapping
    asked_unmappable q e = ap (λ (j : Judged). j.answer) want_judged ∙ rw e

  -- A call that asks where an address leads is told, if it leads anywhere.
  pub asked_led : Reached s xs (λ h. (h ≡ 1) × (key xs ≡ where_leads)) → (phys attr : ℕ) → lead_of s.inner.own args.x1 ≡ To phys attr → (judged s xs).answer ≡ Answer.Leads phys attr
  unfolding leading
  asked_led r phys attr e = ap (λ (j : Judged). j.answer) (found_at s xs may r ∙ where_judged s.inner args r.number (key xs) r.so) ∙ rw e
