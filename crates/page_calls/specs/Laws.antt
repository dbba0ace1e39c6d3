-- How the code's branches meet the table of transfers, and what a verdict makes of the call.
use Rattle.std.specs.Prelude.{◌≡◌, refl, Bool, List, [], ◌∷◌, ℕ, eqb, Err, None, Ok, Option, Result, Some}
use Rattle.std.proofs.Common.{◌∙◌}
use Rattle.std.proofs.Math.Bool.{true, false}
use borrow.Author.Tests.{eq-eqb, ne_eqb}
use Rattle.judgements.specs.declared.Transfer.{Transfer}
use Rattle.rules.specs.Choice.{pick, by}
use Rattle.rules.specs.Sizes.{secure, normal, realm}
use Rattle.rules.specs.Tests.{contraries, other_key}
use Rattle.rules.specs.declared.Reason.{Reason}
use Rattle.pages.specs.declared.Window.{Window}
use Rattle.mapping.specs.Lists.{held}
use Rattle.transfers.specs.Transfer.{transfer_verdict}
use Rattle.judgements.specs.declared.Answer.TheVariants as Answer
use Rattle.judgements.specs.declared.Deed.TheVariants as Deed
use Rattle.judgements.specs.declared.Judged.{Judged}
use Rattle.judgements.specs.Judge.{denied, granted, one_of, takers, Listed, row_in, moving}
use Rattle.page_calls.specs.declared.Ends.{Ends}

-- ---- the table
module _ (ls ms : List Listed) (h n key : ℕ) (r : Option Transfer) where
  pub its_handler : h ≡ n → r ≡ row_in ls key → r ≡ row_in (pick (eqb h n) ls ms) key
  unfolding pick
  its_handler e f = rw (eq-eqb h n e) f

  pub other_handler : (h ≡ n → ⊥) → r ≡ row_in ms key → r ≡ row_in (pick (eqb h n) ls ms) key
  unfolding pick
  other_handler e f = rw (ne_eqb h n e) f

module _ (l : Listed) (ls : List Listed) (key : ℕ) (r : Option Transfer) where
  pub row_here : key ≡ l.key → r ≡ Some l.transfer → r ≡ row_in (l ∷ ls) key
  unfolding row_in pick
  row_here e f = rw (eq-eqb key l.key e) f

  pub row_later : eqb key l.key ≡ false → r ≡ row_in ls key → r ≡ row_in (l ∷ ls) key
  unfolding row_in pick
  row_later e f = rw e f

pub no_row : (key : ℕ) (r : Option Transfer) → r ≡ None → r ≡ row_in [] key
unfolding row_in
no_row key r e = e

pub ruleset table = (its_handler, other_handler, row_here, row_later, no_row, other_key, ne_eqb)

-- ---- who may call
module _ (w : ℕ) (both : Bool) where
  pub may_secure : (r : Bool) → w ≡ secure → r ≡ both → r ≡ one_of w (pick both takers (realm ∷ []))
  unfolding one_of pick
  may_secure r e f = rw e (f ∙ by (λ (b : Bool). b ≡ one_of secure (pick b takers (realm ∷ []))) both (λ y. refl) (λ n. refl))

  pub may_realm : w ≡ realm → true ≡ one_of w (pick both takers (realm ∷ []))
  unfolding one_of pick
  may_realm e = rw e (by (λ (b : Bool). true ≡ one_of realm (pick b takers (realm ∷ []))) both (λ y. refl) (λ n. refl))

  pub may_not : (w ≡ secure → ⊥) → (w ≡ realm → ⊥) → false ≡ one_of w (pick both takers (realm ∷ []))
  unfolding one_of pick
  may_not s n = by (λ (b : Bool). false ≡ one_of w (pick b takers (realm ∷ []))) both (λ y. rw (ne_eqb w secure s, ne_eqb w realm n)) (λ y. rw (ne_eqb w realm n))

pub ruleset callers = (may_secure, may_realm, may_not)

-- ---- what a verdict makes of the call
module _ (l : Result ℕ Reason) (count to : ℕ) (r : Judged) where
  pub move_granted : (first : ℕ) → l ≡ Ok first → r ≡ granted Answer.Done (Deed.Move first count to) → r ≡ moving l count to
  unfolding moving
  move_granted first e h = rw e h

  pub move_no : (q : Reason) → l ≡ Err q → r ≡ denied q → r ≡ moving l count to
  unfolding moving
  move_no q e h = rw e h

pub ruleset verdicts = (move_granted, move_no)

-- ---- who gives and who takes
unfoldable pub ends_of : Bool → ℕ → Ends
ends_of takes world = pick takes (record { from = normal; to = world }) (record { from = world; to = normal })

pub moved_ends : (takes : Bool) (world : ℕ) (e : Ends) (w : Window) (o l : List ℕ) (x n : ℕ) (k : Result ℕ Reason) (r : Judged)
    → e ≡ ends_of takes world → k ≡ transfer_verdict w o (held l e.from) e.from x n → r ≡ moving k n e.to
    → r ≡ pick takes (moving (transfer_verdict w o (held l normal) normal x n) n world) (moving (transfer_verdict w o (held l world) world x n) n normal)
unfolding ends_of pick
moved_ends takes world e w o l x n k r f g h =
    h
    ∙ rw (g, f)
    (by
    (λ (b : Bool). moving (transfer_verdict w o (held l (ends_of b world).from) (ends_of b world).from x n) n (ends_of b world).to
    ≡ pick b (moving (transfer_verdict w o (held l normal) normal x n) n world) (moving (transfer_verdict w o (held l world) world x n) n normal))
    takes
    (λ y. refl)
    (λ y. refl))

pub ruleset moves = (moved_ends, contraries)
