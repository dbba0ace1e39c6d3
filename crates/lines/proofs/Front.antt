-- An unfinished line moved to the front of the bytes that were read, for the next read to go on behind it.
use Rattle.std.specs.Prelude.{◌≡◌, List, ◌++◌, ℕ, ◌+◌, ◌-◌, ◌≤◌, ◌<◌, leb, length, take, drop}
use Rattle.std.proofs.Math.Path.{refl}
use Rattle.std.proofs.Common.{sym, ap, ◌∙◌, arith, le-leb, leb-true, leb-false, length-take, take_all, take-take}
use Rattle.std.proofs.lemmas.Bool.{lt-leb}
use Rattle.rules.specs.Choice.{pick_yes, passed, either, both_true, left_false, right_false}
use Rattle.lines.specs.Lines.{part, Unbroken}
use Rattle.lines.specs.Meant.{meant, Blind, meant_cut}
use Rattle.lines.specs.Front.{Moving, at_front, front_length, fronted, keeps, moved, take_front}

-- ---- each outcome
module _ (s : List ℕ) (from to : ℕ) where
  pub front_order : to < from → (0, s) ≡ fronted s from to
  unfolding fronted
  front_order h = passed _ _ _ _ (left_false _ _ (lt-leb from to h)) refl

  pub front_past : length s < to → (0, s) ≡ fronted s from to
  unfolding fronted
  front_past h = passed _ _ _ _ (right_false (leb from to) _ (lt-leb to (length s) h)) refl

  module _ (g : from ≤ to) (h : to ≤ length s) where
    front_is : fronted s from to ≡ (keeps from to, at_front s from (keeps from to))
    unfolding fronted
    front_is = pick_yes _ _ _ (both_true _ _ (le-leb from to g) (le-leb to (length s) h))

    pub front_done : (s' : List ℕ) (n i : ℕ) → n ≡ keeps from to → i ≤ n → n ≤ i → Moving s s' from i → (n, s') ≡ fronted s from to
    front_done s' n i e a b m =
        let p : i ≡ n = omega arith in
        let q : from + n ≤ length s = omega arith in
        rw front_is (rw (moved s s' from n q (rw p at m), e))

    -- what is kept means what the whole did, whatever is read behind it
    module _ (s' : List ℕ) (r : ℕ) (e : (r, s') ≡ fronted s from to) where
      kept : r ≡ keeps from to
      kept = ap (λ (q : ℕ × List ℕ). q.0) (e ∙ front_is)

      front : s' ≡ at_front s from r
      front = ap (λ (q : ℕ × List ℕ). q.1) (e ∙ front_is) ∙ rw kept

      inside : from + r ≤ length s
      inside = omega (arith, kept)

      pub front_kept : take r s' ≡ take 133 (part s from to)
      front_kept =
          rw (front, take_front s from r inside)
          (either (leb (to - from) 133)
          (λ y.
          let b : to - from ≤ 133 = leb-true _ _ y in
          let a : r ≡ to - from = omega (arith, kept) in
          rw a (sym (take_all 133 (part s from to) (omega (arith, front_length s from (to - from) (omega arith))))))
          (λ y.
          let b : 133 < to - from = leb-false _ _ y in
          let a : r ≡ 133 = omega (arith, kept) in
          rw a (sym (take-take 133 (to - from) (drop from s) (omega arith)))))

      pub front_count : r ≡ length (take 133 (part s from to))
      front_count = omega (arith, kept, length-take 133 (part s from to), front_length s from (to - from) (omega arith))

      pub front_meant : {A : Type 0} (f : List ℕ → A) → Blind f → Unbroken (part s from to) → (more : List ℕ) → meant f (take r s' ++ more) ≡ meant f (part s from to ++ more)
      front_meant f blind u more = rw front_kept (meant_cut f blind (part s from to) more u)
