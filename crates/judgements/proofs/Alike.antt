-- One call judged with two lists of the caller's own mappings. A judgement owes all to that list in a call on it, in a gift of pages whether it is granted, and else nothing.
use Rattle.std.specs.Prelude.{◌≡◌, false, ℕ, None, Option, Result, Some}
use Rattle.std.proofs.Math.Path.{refl}
use Rattle.std.proofs.Common.{ap, inl, inr, eqb-true}
use mathlib.Core.List.{List}
use Rattle.rules.specs.declared.Reason.{Reason}
use Rattle.rules.specs.Choice.{chosen_two, yes_or_no}
use Rattle.rules.specs.Tests.{sieved_two}
use Rattle.identifiers.specs.declared.Parts.{Parts}
use Rattle.ranges.specs.declared.Mapping.{Mapping}
use Rattle.transfers.specs.Granted.{OneVerdict, verdict_same}
use Rattle.judgements.specs.Names.{map_pages, unmap_pages, where_leads}
use Rattle.judgements.specs.Judge.{HandlerSight, handler_sight, sighted, denied, moving, transferring, board, by_number, by_row, by_handler, found, judged_by}
use Rattle.judgements.specs.declared.Answer.TheVariants as Answer
use Rattle.judgements.specs.declared.Args.{Args}
use Rattle.judgements.specs.declared.Caller.{Caller}
use Rattle.judgements.specs.declared.Transfer.{Transfer}
use Rattle.judgements.specs.Alike.{GivesPages, Level, OnList, Same, row_by}

moving_same : (count to : ℕ) (v u : Result ℕ Reason) → OneVerdict v u → Level (moving v count to) (moving u count to) → moving v count to ≡ moving u count to
unfolding moving
moving_same count to v u one l =
    ap (λ (x : Result ℕ Reason). moving x count to) (one (λ first r e f. l.0 r (rw e) (rw f)) (λ first r e f. l.1 r (rw e) (rw f)))

module _ (v : Caller) (p o : List ℕ) (m n theirs : List Mapping) (a : Args) (k : ℕ) (off : OnList k → ⊥) where
  abbrev one : HandlerSight
  one = handler_sight v p o m theirs

  abbrev other : HandlerSight
  other = handler_sight v p o n theirs

  transfers_same : (t : Transfer) → (t.takes ≡ false → GivesPages k) → Same k (transferring t v o m theirs a) (transferring t v o n theirs a)
  unfolding transferring
  transfers_same t gives =
      sieved_two (Same k) denied denied _ _ _ (λ r l. refl)
      (λ c. chosen_two (Same k) t.takes _ _ _ _ (λ e l. refl) (λ e l. moving_same _ _ _ _ (verdict_same _ _ _ _ _ _ _) (l (gives e))))

  boards_same : Same k (board one a k) (board other a k)
  unfolding board
  boards_same =
      chosen_two (Same k) _ _ _ _ _ (λ e l. refl)
      (λ e. chosen_two (Same k) _ _ _ _ _ (λ e l. absurd (off (inl (eqb-true k map_pages e))))
      (λ e. chosen_two (Same k) _ _ _ _ _ (λ e l. absurd (off (inr (inl (eqb-true k unmap_pages e)))))
      (λ e. chosen_two (Same k) _ _ _ _ _ (λ e l. absurd (off (inr (inr (eqb-true k where_leads e)))))
      (λ e l. refl))))

  numbers_same : (h : ℕ) → Same k (by_number one a k h) (by_number other a k h)
  unfolding by_number
  numbers_same h = chosen_two (Same k) _ _ _ _ _ (λ e l. refl) (λ e. chosen_two (Same k) _ _ _ _ _ (λ e. boards_same) (λ e l. refl))

  handlers_same : (h : ℕ) → Same k (by_handler one a k h) (by_handler other a k h)
  unfolding by_row
  handlers_same h =
      row_by a h k (λ (r : Option Transfer). Same k (by_row one a k h r) (by_row other a k h r)) (numbers_same h)
      (λ t e g. transfers_same t (λ f. absurd (yes_or_no t.takes e f))) (λ t e g. transfers_same t (λ f. g))

  lookups_same : (l : Option ℕ) → Same k (found one a k l) (found other a k l)
  unfolding found
  lookups_same None = λ l. refl
  lookups_same (Some h) = handlers_same h

-- The judgement of a call that is not on the caller's own list owes to that list only whether a gift of pages is granted.
pub judged_same : (l : List ℕ) (v : Caller) (p o : List ℕ) (m n theirs : List Mapping) (q : Parts) (a : Args) (k : ℕ) → (OnList k → ⊥)
    → (GivesPages k → Level (judged_by (sighted l (handler_sight v p o m theirs)) q a k) (judged_by (sighted l (handler_sight v p o n theirs)) q a k))
    → judged_by (sighted l (handler_sight v p o m theirs)) q a k ≡ judged_by (sighted l (handler_sight v p o n theirs)) q a k
unfolding judged_by
judged_same l v p o m n theirs q a k off = sieved_two (Same k) denied denied _ _ _ (λ r l. refl) (λ c. lookups_same v p o m n theirs a k off _)
