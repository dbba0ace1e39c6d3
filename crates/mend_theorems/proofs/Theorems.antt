-- What mending promises of any input, in the words of its request.
use Rattle.std.specs.Prelude.{◌≡◌, refl, true, false, ℕ, ◌+◌, ◌≤◌, ◌<◌, eqb, ltb, length}
use Rattle.std.proofs.Common.{sym, ◌∙◌, ⊎_elim, arith, length-append, lt-ltb, le-ltb, ltb-true, ltb-false, eqb-true}
use Rattle.std.proofs.Math.Path.{ap}
use mathlib.Core.List.{List, [], ◌∷◌, ◌++◌, map, append-nil}
use Rattle.std.proofs.Math.ListN.{get_or}
use Rattle.std.proofs.Math.Seq.{get_or_at}
use Rattle.std.proofs.lemmas.Bool.{eqb-false}
use Rattle.rules.specs.Choice.{pick_yes, pick_no, chosen, either}
use Rattle.parsing.specs.Frame.{status_byte}
use Rattle.parsing.specs.declared.Status.TheVariants as Status
use Rattle.lines.specs.Lines.{lines_of}
use Rattle.lines.specs.Meant.{meant}
use Rattle.lines.specs.Input.{reading}
use Rattle.text.specs.Text.{status_text}
use Rattle.showing.specs.declared.Reply.TheVariants as Reply
use Rattle.frames.specs.Frames.{Machine, first, framed}
use Rattle.answering.specs.Answer.{text_of}
use Rattle.inputs.specs.Folds.{folded, left}
use Rattle.inputs.specs.Run.{answers, printed, turned, left_by}
use Rattle.sheets.specs.Sheet.{too_many, length_too_many}
use Rattle.mending.specs.Judged.{later, status_of, judged, judged_line}
use Rattle.mend_theorems.specs.Mended.{onward, verdicts, kept_by, dropped_by, kept_text, notices_text, mended_text, mended}
use Rattle.mend_theorems.specs.Verdicts.{tells, judged_other, accepts, drops}
use Rattle.mend_theorems.specs.Written.{kept_of, dropped_of, length_verdicts}
use Rattle.mend_theorems.specs.Theorems.{acceptances, answer_text, kept_fewer, kept_long, length_notices, lines_kept, reached, verdicts_two}

answers_kept : (ls : List (List ℕ)) (m : Machine) → answers m (map reading (kept_of m ls)) ≡ acceptances (length (kept_of m ls))
unfolding verdicts kept_by answers acceptances
answers_kept [] m = refl
answers_kept (l ∷ ls) m =
    let m' = onward m l in
    chosen (λ (ks : List (List ℕ)). answers m (map reading ks) ≡ acceptances (length ks)) (eqb (judged_line m l).1 0) _ _
    (λ y.
    let a = accepts m (reading l).0 (reading l).1 (eqb-true _ _ y) in
    rw (a.told, ← a.leaves) (ap (λ (t : List ℕ). status_text Status.Accepted ++ t) (answers_kept ls m')))
    (λ n.
    let d = drops m (reading l).0 (reading l).1 (eqb-false _ _ n) in
    ap (λ (x : Machine). answers x (map reading (kept_of m' ls))) (sym d) ∙ answers_kept ls m')

-- The kept lines, given to the monitor, are all accepted.
pub kept_accepted : (ls : List (List ℕ)) → printed first (kept_text (kept_of first ls)) ≡ acceptances (length (kept_of first ls))
unfolding printed meant
kept_accepted ls = ap (λ (ks : List (List ℕ)). answers first (map reading ks)) (lines_kept ls first) ∙ answers_kept ls first

-- it is that of the kept ones alone
turned_kept : (ls : List (List ℕ)) (m : Machine) → folded turned m (map reading (kept_of m ls)) ≡ reached m ls
unfolding verdicts kept_by folded reached
turned_kept [] m = refl
turned_kept (l ∷ ls) m =
    let m' = onward m l in
    chosen (λ (ks : List (List ℕ)). folded turned m (map reading ks) ≡ reached m' ls) (eqb (judged_line m l).1 0) _ _
    (λ y. let a = accepts m (reading l).0 (reading l).1 (eqb-true _ _ y) in ap (λ (x : Machine). folded turned x (map reading (kept_of m' ls))) (sym a.leaves) ∙ turned_kept ls m')
    (λ n.
    let d = drops m (reading l).0 (reading l).1 (eqb-false _ _ n) in
    ap (λ (x : Machine). folded turned x (map reading (kept_of m' ls))) (sym d) ∙ turned_kept ls m')

left_kept : (ls : List (List ℕ)) → left_by first (kept_text (kept_of first ls)) ≡ reached first ls
unfolding left meant
left_kept ls = ap (λ (ks : List (List ℕ)). folded turned first (map reading ks)) (lines_kept ls first) ∙ turned_kept ls first

module _ (before : List (List ℕ)) (l : List ℕ) (behind : List (List ℕ)) where
  -- the monitor, once it has read the kept lines before it
  abbrev pub there : Machine
  there = left_by first (kept_text (kept_of first before))

  abbrev pub verdict : ℕ
  verdict = get_or (verdicts first (before ++ l ∷ behind)) (length before) 0

  verdict_so : verdict ≡ (judged_line there l).1
  unfolding verdicts
  verdict_so =
      ap (λ (vs : List ℕ). get_or vs (length before) 0) (verdicts_two before (l ∷ behind) first)
      ∙ get_or_at (verdicts first before) (judged_line (reached first before) l).1 (verdicts (onward (reached first before) l) behind) 0 (length before) (length_verdicts before first)
      ∙ rw (left_kept before)

  -- A call or an arrival is dropped with 73.
  pub later_dropped : later (reading l).0 ≡ true → verdict ≡ 0x73
  unfolding judged
  later_dropped e = verdict_so ∙ ap (λ (q : Machine × ℕ). q.1) (pick_yes _ _ _ e)

  -- Any other line has for its status what the monitor answers in its place, once it has read the kept lines before it.
  pub other_answered : later (reading l).0 ≡ false → text_of (framed there (reading l).0 (reading l).1).1 ≡ answer_text verdict
  unfolding answer_text status_text
  other_answered e =
      let t = tells there (reading l).0 (reading l).1 e in
      let v : verdict ≡ status_byte t.why = verdict_so ∙ ap (λ (q : Machine × ℕ). q.1) (judged_other there (reading l).0 (reading l).1 e) ∙ ap status_of t.is in
      rw (t.is, v)

  -- So no dropped line but a call or an arrival would be accepted there.
  pub dropped_refused : later (reading l).0 ≡ false → (verdict ≡ 0 → ⊥) → (framed there (reading l).0 (reading l).1).1 ≡ Reply.Told Status.Accepted → ⊥
  dropped_refused e d a = d (verdict_so ∙ ap (λ (q : Machine × ℕ). q.1) (judged_other there (reading l).0 (reading l).1 e) ∙ ap status_of a)

-- ---- the kept lines mended again
again : (ls : List (List ℕ)) (m : Machine) (n : ℕ) → (kept_of m (kept_of m ls) ≡ kept_of m ls) × (dropped_of m n (kept_of m ls) ≡ [])
unfolding verdicts kept_by dropped_by
again [] m n = (refl, refl)
again (l ∷ ls) m n =
    let m' = onward m l in
    chosen (λ (ks : List (List ℕ)). (kept_of m ks ≡ ks) × (dropped_of m n ks ≡ [])) (eqb (judged_line m l).1 0) _ _
    (λ y.
    let i = again ls m' (n + 1) in
    (pick_yes _ _ _ y ∙ ap (λ (ks : List (List ℕ)). l ∷ ks) i.0, pick_yes _ _ _ y ∙ i.1))
    (λ d.
    let e = drops m (reading l).0 (reading l).1 (eqb-false _ _ d) in
    let i = again ls m' n in
    (ap (λ (x : Machine). kept_of x (kept_of m' ls)) (sym e) ∙ i.0, ap (λ (x : Machine). dropped_of x n (kept_of m' ls)) (sym e) ∙ i.1))

-- ---- the text
module _ (ls : List (List ℕ)) where
  -- of at most 512 lines: the kept ones, each with its newline, and then a notice for each that is dropped, by its number from 1
  pub few_mended : length ls ≤ 512 → mended_text ls ≡ kept_text (kept_of first ls) ++ notices_text (dropped_of first 1 ls)
  unfolding mended_text
  few_mended h = pick_no _ _ _ (le-ltb 512 (length ls) h)

  -- of more: a08f alone
  pub many_mended : 512 < length ls → mended_text ls ≡ too_many
  unfolding mended_text
  many_mended h = pick_yes _ _ _ (lt-ltb 512 (length ls) h)

-- Mending the kept lines drops nothing and prints them again.
pub mended_again : (input : List ℕ) → length (lines_of input) ≤ 512 → mended (kept_text (kept_of first (lines_of input))) ≡ kept_text (kept_of first (lines_of input))
unfolding notices_text
mended_again input h =
    let ls = lines_of input in
    let ks = kept_of first ls in
    let i = again ls first 1 in
    ap mended_text (lines_kept ls first) ∙ few_mended ks (omega (arith, kept_fewer ls first)) ∙ rw (i.0, i.1) (append-nil (kept_text ks))

pub too_many_only : (ls : List (List ℕ)) → mended_text ls ≡ too_many → 512 < length ls
too_many_only ls e =
    either (ltb 512 (length ls)) (λ y. ltb-true _ _ y)
    (λ n.
    let t = kept_text (kept_of first ls) in
    let ds = dropped_of first 1 ls in
    let z : t ++ notices_text ds ≡ too_many = sym (few_mended ls (ltb-false _ _ n)) ∙ e in
    let w = ap length z in
    let a = length-append t (notices_text ds) in
    let b = length_notices ds in
    absurd (⊎_elim (λ (h : length t ≡ 0). omega (arith, length_too_many)) (λ (h : 11 ≤ length t). omega (arith, length_too_many)) (kept_long ls first)))
