-- How the code between two reads meets the definitions of Waiting, whatever is kept and whatever a line means: where the bytes end that are taken, and what waits then.
use Rattle.std.specs.Prelude.{◌≡◌, refl, eqb, leb}
use Rattle.std.proofs.Math.Path.{sym}
use Rattle.std.proofs.Common.{ap, subst, ◌∙◌, arith, take_all, take-suc-set}
use mathlib.Core.List.{List}
use Prim.Native.Nat.{ℕ, ◌≤◌, ◌<◌}
use Rattle.std.proofs.Math.Numerals.{add-one}
use Rattle.std.proofs.Math.ListN.{length, take}
use Rattle.std.proofs.Math.Seq.{length-take-le}
use borrow.Author.Tests.{lt-ltb, le-ltb, leb-true, leb-false, eqb-true, eqb-false}
use Rattle.rules.specs.Choice.{picked, passed, chosen, both_true, left_false, right_false}
use Rattle.lines.specs.Parts.{complete, unfinished}
use Rattle.lines.specs.Front.{fronted}
use Rattle.lines.specs.Close.{closing, close_inside}
use Rattle.inputs.specs.Folds.{left}
use Rattle.inputs.specs.Waiting.{ended, heard, front, sized, taken}
use Rattle.inputs.specs.Closing.{moved_front, some_ended}

-- the first `end` bytes are those that are taken
module _ (buf : List ℕ) (kept n : ℕ) where
  abbrev At : ℕ × List ℕ → Type 0
  At q = take q.0 q.1 ≡ heard buf kept n

  closed_at : At (closing buf kept n)
  unfolding closing heard ended
  closed_at =
      chosen At (leb (length buf) n) _ _
      (λ y.
      let h : length buf ≤ n = leb-true _ _ y in
      passed _ _ _ _ (right_false (eqb n kept) _ (le-ltb n (length buf) h)) (take_all (length buf) buf (omega arith) ∙ sym (take_all n buf h)))
      (λ y.
      let h : n < length buf = leb-false _ _ y in
      chosen At (eqb n kept) _ _
      (λ e.
      picked _ _ _ _ (both_true _ _ e (lt-ltb n (length buf) h))
      (chosen (λ (q : ℕ × List ℕ). take q.0 q.1 ≡ ended (take n buf)) (eqb n 0) _ _
      (λ z. rw (eqb-true n 0 z))
      (λ z. rw add-one (take-suc-set buf n 10 h) ∙ some_ended (take n buf) (λ (k : length (take n buf) ≡ 0). eqb-false n 0 z (omega (arith, length-take-le n buf (omega arith)))))))
      (λ e. passed _ _ _ _ (left_false _ _ e) refl))

  pub closed : (end : ℕ) (b : List ℕ) → (end, b) ≡ closing buf kept n → take end b ≡ heard buf kept n
  closed end b e = subst At (sym e) closed_at

-- so a feed of all that was heard is what a read calls for
pub takes : {S A : Type 0} (step : S → A → S) (f : List ℕ → A) (a a' : S) (buf : List ℕ) (kept n end : ℕ) (b : List ℕ) (used kept' : ℕ) (b' : List ℕ)
    → (end, b) ≡ closing buf kept n → used ≡ length (complete (take end b)) → a' ≡ left step f a (complete (take end b)) → (kept', b') ≡ fronted b used end
    → (a', front kept' b') ≡ taken step f a (heard buf kept n)
unfolding taken
takes {S} {A} step f a a' buf kept n end b used kept' b' e u l k =
    both l (moved_front b end (close_inside buf kept n end b e) used kept' b' u k) ∙ ap (λ (q : List ℕ). (left step f a (complete q), sized (take 133 (unfinished q)))) (closed buf kept n end b e)
  where
    both : {x x' : S} {y y' : ℕ × List ℕ} → x ≡ x' → y ≡ y' → ◌≡◌ {A = S × (ℕ × List ℕ)} (x, y) (x', y')
    both p q = rw (p, q)
