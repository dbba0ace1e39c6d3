-- What is written for an input is what mending makes of it: the sheet holds the text of the kept lines and that of the notices, and there is room for both.
use Rattle.std.specs.Prelude.{◌≡◌, eqb, ltb}
use Rattle.std.proofs.Math.Path.{refl, ap}
use Rattle.std.proofs.Common.{◌∙◌}
use Rattle.std.proofs.Math.Bool.{true, false}
use mathlib.Core.List.{List, [], ◌∷◌, ◌++◌, map, append-nil, append_assoc}
use Prim.Native.Nat.{ℕ, suc, ◌+◌, ◌*◌, ◌≤◌, ◌<◌}
use native.Mathlib.Omega.{arith}
use Rattle.std.proofs.Math.ListN.{length, take, length-append}
use borrow.Author.Tests.{lt-ltb, le-ltb, ltb-true, ltb-false, eqb-true}
use Rattle.rules.specs.Choice.{pick, pick_yes, pick_no, either}
use Rattle.tools.specs.Laid.{laid, put_fits, put_take}
use Rattle.lines.specs.Lines.{lines_of}
use Rattle.lines.specs.Meant.{meant}
use Rattle.frames.specs.Frames.{Machine, first}
use Rattle.inputs.specs.Folds.{folded, left}
use Rattle.sheets.specs.Sheet.{Sheet, sheet, line_text, dropped_text, too_many, counting, kept_on, dropped_on, noted_on, finished, length_line, length_dropped, length_too_many}
use Rattle.mending.specs.Judged.{judged_line, meaning, Kept, after_line}
use Rattle.mend_theorems.specs.Mended.{onward, verdicts, kept_by, dropped_by, kept_text, notices_text, mended_text, mended}
use Rattle.mending.specs.Laws.{line_cut}
use Rattle.mend_reads.specs.Reading.{Mends}
use Rattle.mend_theorems.specs.Verdicts.{keeps}
use Rattle.mend_theorems.specs.Written.{Over, Writes, dropped_of, kept_of, kept_short, length_verdicts, notices_short, overs, put_on, take_laid}

-- ---- up to 512 lines
module _ (k₀ d₀ : List ℕ) (roomy : length k₀ ≡ 17408) (room : length d₀ ≡ 4608) where
  -- n lines came, with this text of the kept ones and of the others
  abbrev held : ℕ → List ℕ → List ℕ → Sheet
  held n t u = sheet (laid k₀ 0 t) (laid d₀ 0 u) (n ∷ length t ∷ length u ∷ [])

  module _ (m : Machine) (l : List ℕ) (n : ℕ) (t u : List ℕ) (few : n < 512) (short : length t ≤ 25 * n) (shorter : length u ≤ 9 * n) where
    judged_now : after_line (m, held n t u) (meaning l) ≡ ((judged_line m l).0, noted_on (held (n + 1) t u) (judged_line m l).1 l)
    unfolding meaning after_line counting pick
    judged_now = line_cut (m, held n t u) l ∙ rw (lt-ltb n 512 few)

    pub held_kept : (judged_line m l).1 ≡ 0 → after_line (m, held n t u) (meaning l) ≡ ((judged_line m l).0, held (n + 1) (t ++ line_text l) u)
    unfolding noted_on kept_on pick
    held_kept e =
        let p = put_on k₀ t (line_text l) (omega (arith, length_line l, (keeps m l e).high)) in
        judged_now ∙ rw (e, p)

    pub held_dropped : eqb (judged_line m l).1 0 ≡ false → after_line (m, held n t u) (meaning l) ≡ ((judged_line m l).0, held (n + 1) t (u ++ dropped_text (n + 1) (judged_line m l).1))
    unfolding noted_on dropped_on pick
    held_dropped e =
        let p = put_on d₀ u (dropped_text (n + 1) (judged_line m l).1) (omega (arith, length_dropped (n + 1) (judged_line m l).1)) in
        judged_now ∙ rw (e, p)

  -- what lines add to it
  holds : (ls : List (List ℕ)) (m : Machine) (n : ℕ) (t u : List ℕ) → n + length ls ≤ 512 → length t ≤ 25 * n → length u ≤ 9 * n
      → (folded after_line (m, held n t u) (map meaning ls)).1 ≡ held (n + length ls) (t ++ kept_text (kept_of m ls)) (u ++ notices_text (dropped_of m (n + 1) ls))
  unfolding folded verdicts kept_by dropped_by kept_text notices_text
  holds [] m n t u few short shorter =
      let z : n ≡ n + 0 = omega arith in
      rw (append-nil t, append-nil u, ← z)
  holds (l ∷ ls) m n t u few short shorter =
      let m' = onward m l in
      let v = (judged_line m l).1 in
      let z : n + 1 + length ls ≡ n + suc (length ls) = omega arith in
      either (eqb v 0)
      (λ y.
      let k = keeps m l (eqb-true _ _ y) in
      let i = holds ls m' (n + 1) (t ++ line_text l) u (omega arith) (omega (arith, length-append t (line_text l), length_line l, k.high)) (omega arith) in
      ap (λ (q : Kept). (folded after_line q (map meaning ls)).1) (held_kept m l n t u (omega arith) short shorter (eqb-true _ _ y)) ∙ i
      ∙ rw (y, pick_yes true (l ∷ kept_of m' ls) (kept_of m' ls), pick_yes true (dropped_of m' (n + 1 + 1) ls), append_assoc t (line_text l) (kept_text (kept_of m' ls)), z))
      (λ d.
      let i = holds ls m' (n + 1) t (u ++ dropped_text (n + 1) v) (omega arith) (omega arith) (omega (arith, length-append u (dropped_text (n + 1) v), length_dropped (n + 1) v)) in
      ap (λ (q : Kept). (folded after_line q (map meaning ls)).1) (held_dropped m l n t u (omega arith) short shorter d) ∙ i
      ∙ rw (d, pick_no false (l ∷ kept_of m' ls) (kept_of m' ls), pick_no false (dropped_of m' (n + 1 + 1) ls), append_assoc u (dropped_text (n + 1) v) (notices_text (dropped_of m' (n + 1 + 1) ls)), z))

module _ (k₀ d₀ : List ℕ) (roomy : length k₀ ≡ 17408) (room : length d₀ ≡ 4608) where
  -- the sheet after an input
  abbrev pub after : List ℕ → Sheet
  after input = (left after_line meaning (first, sheet k₀ d₀ (0 ∷ 0 ∷ 0 ∷ [])) input).1

  abbrev pub output : List ℕ → ℕ × List ℕ
  output input = finished (after input).kept (after input).dropped (after input).ends

  few_written : (ls : List (List ℕ)) → length ls ≤ 512 → (s : Sheet) → s ≡ (folded after_line (first, sheet k₀ d₀ (0 ∷ 0 ∷ 0 ∷ [])) (map meaning ls)).1 → Writes (finished s.kept s.dropped s.ends) (mended_text ls)
  unfolding finished mended_text laid
  few_written ls h s e =
      let t = kept_text (kept_of first ls) in
      let u = notices_text (dropped_of first 1 ls) in
      let a = kept_short ls first in
      let b = notices_short (verdicts first ls) 1 in
      let g = length_verdicts ls first in
      let z : 0 + length ls ≡ length ls = omega arith in
      let i : s ≡ held k₀ d₀ roomy room (length ls) t u =
      e ∙ holds k₀ d₀ roomy room ls first 0 [] [] (omega arith) (omega arith) (omega arith) ∙ ap (λ (n : ℕ). held k₀ d₀ roomy room n t u) z in
      let w : take (length u) (laid d₀ 0 u) ≡ u = take_laid d₀ u (omega arith) in
      let p = put_on k₀ t u (omega arith) in
      let r = take_laid k₀ (t ++ u) (omega (arith, length-append t u)) in
      rw (i, le-ltb 512 (length ls) h, pick_no {A = ℕ × List ℕ} false, pick_no {A = List ℕ} false, w, p) (refl, r)

  many_written : (ls : List (List ℕ)) → 512 < length ls → (s : Sheet) → s ≡ (folded after_line (first, sheet k₀ d₀ (0 ∷ 0 ∷ 0 ∷ [])) (map meaning ls)).1 → Writes (finished s.kept s.dropped s.ends) (mended_text ls)
  unfolding finished mended_text
  many_written ls h s e =
      let o : Over k₀ s = rw e (overs ls (first, sheet k₀ d₀ (0 ∷ 0 ∷ 0 ∷ [])) refl (omega arith) (omega arith)) in
      let p = put_fits s.kept 0 too_many 5 length_too_many (laid s.kept 0 too_many) (omega (arith, o.room)) refl in
      let r = put_take s.kept 0 too_many 5 length_too_many (omega (arith, o.room)) in
      let z : 0 + 5 ≡ 5 = omega arith in
      rw (o.over, lt-ltb 512 (length ls) h, pick_yes {A = ℕ × List ℕ} true, pick_yes {A = List ℕ} true, ← p) (omega (arith, length_too_many), r)

  -- What is written for an input is what mending makes of it, however it came in and whatever stood in the space.
  pub written : (input : List ℕ) → Writes (output input) (mended input)
  unfolding left meant
  written input =
      let ls = lines_of input in
      either (ltb 512 (length ls)) (λ y. many_written ls (ltb-true _ _ y) _ refl) (λ n. few_written ls (ltb-false _ _ n) _ refl)

  -- So whatever `mend` has read, what `finish` then lays and counts for the writer is what mending makes of it.
  pub any_told : (s : Sheet) (r : Mends (sheet k₀ d₀ (0 ∷ 0 ∷ 0 ∷ [])) s) → Writes (finished s.kept s.dropped s.ends) (mended r.input)
  any_told s r = rw r.is (written r.input)
