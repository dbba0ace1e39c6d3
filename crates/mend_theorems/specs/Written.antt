-- What is written for an input is what mending makes of it: the sheet holds the text of the kept lines and that of the notices, and there is room for both.
use Rattle.std.specs.Prelude.{◌≡◌, Bool, eqb, ltb, leb, get_or, set}
use Rattle.std.proofs.Math.Path.{refl, ap}
use Rattle.std.proofs.Common.{sym, ◌∙◌, length-set, get_or-set_same, get_or-set_other}
use Rattle.std.proofs.Math.Bool.{true, false}
use mathlib.Core.List.{List, [], ◌∷◌, ◌++◌, map}
use Prim.Native.Nat.{ℕ, suc, ◌+◌, ◌*◌, ◌≤◌, ◌<◌}
use native.Mathlib.Omega.{arith}
use Rattle.std.proofs.Math.ListN.{length, take, length-append}
use borrow.Author.Tests.{ltb-true, eqb-true}
use Rattle.rules.specs.Choice.{pick, pick_yes, pick_no, chosen, either}
use Rattle.tools.specs.Laid.{laid, put, put_fits, put_take, laid_append, length_laid}
use Rattle.frames.specs.Frames.{Machine}
use Rattle.inputs.specs.Folds.{folded}
use Rattle.sheets.specs.Sheet.{Sheet, sheet, came, line_text, dropped_text, counting, kept_on, dropped_on, noted_on, length_line, length_dropped}
use Rattle.mending.specs.Judged.{judged_line, meaning, Kept, after_line}
use Rattle.mend_theorems.specs.Mended.{onward, verdicts, kept_by, dropped_by, kept_text, notices_text}
use Rattle.mend_theorems.specs.Verdicts.{keeps}

-- the text of the kept lines, and that of the notices numbered from n on
abbrev pub kept_of : Machine → List (List ℕ) → List (List ℕ)
kept_of m ls = kept_by (verdicts m ls) ls

abbrev pub dropped_of : Machine → ℕ → List (List ℕ) → List (ℕ × ℕ)
dropped_of m n ls = dropped_by n (verdicts m ls)

-- ---- how long they are
pub kept_short : (ls : List (List ℕ)) (m : Machine) → length (kept_text (kept_of m ls)) ≤ 25 * length ls
unfolding verdicts kept_by kept_text pick
kept_short [] m = omega arith
kept_short (l ∷ ls) m =
    chosen (λ (ks : List (List ℕ)). length (kept_text ks) ≤ 25 * suc (length ls)) (eqb (judged_line m l).1 0) _ _
    (λ y.
    let k = keeps m l (eqb-true _ _ y) in
    let r = kept_short ls (onward m l) in
    omega (arith, length-append (line_text l) (kept_text (kept_of (onward m l) ls)), length_line l, k.high))
    (λ n. omega (arith, kept_short ls (onward m l)))

pub notices_short : (vs : List ℕ) (n : ℕ) → length (notices_text (dropped_by n vs)) ≤ 9 * length vs
unfolding dropped_by notices_text
notices_short [] n = omega arith
notices_short (v ∷ vs) n =
    chosen (λ (ds : List (ℕ × ℕ)). length (notices_text ds) ≤ 9 * suc (length vs)) (eqb v 0) _ _
    (λ y. omega (arith, notices_short vs (n + 1)))
    (λ d. omega (arith, length-append (dropped_text n v) (notices_text (dropped_by (n + 1) vs)), length_dropped n v, notices_short vs (n + 1)))

pub length_verdicts : (ls : List (List ℕ)) (m : Machine) → length (verdicts m ls) ≡ length ls
unfolding verdicts
length_verdicts [] m = refl
length_verdicts (l ∷ ls) m = ap suc (length_verdicts ls (onward m l))

-- ---- a text laid behind another, from the front of the space
pub put_on : (o t v : List ℕ) → length t + length v ≤ length o → put (laid o 0 t) (length t) v ≡ (length (t ++ v), laid o 0 (t ++ v))
put_on o t v h =
    let a = length_laid o 0 t in
    let z : 0 + length t ≡ length t = omega arith in
    let e : laid (laid o 0 t) (length t) v ≡ laid o 0 (t ++ v) = ap (λ (n : ℕ). laid (laid o 0 t) n v) (sym z) ∙ laid_append t v o 0 in
    sym (put_fits (laid o 0 t) (length t) v (length v) refl (laid (laid o 0 t) (length t) v) (omega arith) refl) ∙ rw (e, length-append t v)

pub take_laid : (o t : List ℕ) → length t ≤ length o → take (length t) (laid o 0 t) ≡ t
take_laid o t h =
    let z : 0 + length t ≡ length t = omega arith in
    ap (λ (n : ℕ). take n (laid o 0 t)) (sym z) ∙ put_take o 0 t (length t) refl (omega arith)

length_put : (o : List ℕ) (at : ℕ) (t : List ℕ) → length (put o at t).1 ≡ length o
unfolding put
length_put o at t = chosen (λ (q : ℕ × List ℕ). length q.1 ≡ length o) (leb (at + length t) (length o)) _ _ (λ y. length_laid o at t) (λ n. refl)

-- ---- more than 512
-- a line leaves the room for the text, and one more is counted
record Counts (s s' : Sheet) : Type 0 where
  room : length s'.kept ≡ length s.kept
  three : length s'.ends ≡ length s.ends
  one : came s'.ends ≡ pick (ltb (came s.ends) 512) (came s.ends + 1) 513

noted_counts : (s : Sheet) (status : ℕ) (l : List ℕ) (s₀ : Sheet) → Counts s₀ s → Counts s₀ (noted_on s status l)
unfolding noted_on kept_on dropped_on
noted_counts s status l s₀ c =
    let e = s.ends in
    let a = put s.kept (get_or e 1 0) (line_text l) in
    let b = put s.dropped (get_or e 2 0) (dropped_text (came e) status) in
    chosen (Counts s₀) (eqb status 0) _ _
    (λ y. record {
      room = length_put s.kept (get_or e 1 0) (line_text l) ∙ c.room;
      three = length-set e 1 a.0 ∙ c.three;
      one = get_or-set_other e 1 0 a.0 0 (λ z. omega arith) ∙ c.one;
    })
    (λ n. record { room = c.room; three = length-set e 2 b.0 ∙ c.three; one = get_or-set_other e 2 0 b.0 0 (λ z. omega arith) ∙ c.one })

counts : (k : Kept) (l : List ℕ) → length k.1.ends ≡ 3 → Counts k.1 (after_line k (meaning l)).1
unfolding meaning after_line counting
counts k l three =
    let e = k.1.ends in
    either (ltb (came e) 512)
    (λ y. rw (y, pick_yes {A = Bool × List ℕ} true, pick_yes {A = Kept} true)
    (noted_counts (sheet k.1.kept k.1.dropped (set e 0 (came e + 1))) (judged_line k.0 l).1 (take 133 l) k.1
    (record { room = refl; three = length-set e 0 (came e + 1); one = rw (y, pick_yes {A = ℕ} true) (get_or-set_same e 0 (came e + 1) 0 (omega arith)) })))
    (λ n. rw (n, pick_no {A = Bool × List ℕ} false, pick_no {A = Kept} false)
    (record { room = refl; three = length-set e 0 513; one = rw (n, pick_no {A = ℕ} false) (get_or-set_same e 0 513 0 (omega arith)) }))

pub record Over (k : List ℕ) (s : Sheet) : Type 0 where
  pub room : length s.kept ≡ length k
  pub over : came s.ends ≡ 513

pub overs : (ls : List (List ℕ)) (k : Kept) → length k.1.ends ≡ 3 → came k.1.ends ≤ 513 → 512 < came k.1.ends + length ls → Over k.1.kept (folded after_line k (map meaning ls)).1
unfolding folded
overs [] k three few many = record { room = refl; over = omega arith }
overs (l ∷ ls) k three few many =
    let n = came k.1.ends in
    let c = counts k l three in
    let k' = after_line k (meaning l) in
    let b : (came k'.1.ends ≤ 513) × (512 < came k'.1.ends + length ls) =
    rw c.one (chosen (λ (x : ℕ). (x ≤ 513) × (512 < x + length ls)) (ltb n 512) _ _ (λ y. (omega (arith, ltb-true n 512 y), omega arith)) (λ y. (omega arith, omega arith))) in
    let i = overs ls k' (c.three ∙ three) b.0 b.1 in
    record { room = i.room ∙ c.room; over = i.over }

-- ---- the whole
-- so many bytes at the front, and what they are
abbrev pub Writes : ℕ × List ℕ → List ℕ → Type 0
Writes q text = (q.0 ≡ length text) × (take q.0 q.1 ≡ text)
