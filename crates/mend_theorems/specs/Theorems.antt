-- What mending promises of any input, in the words of its request.
use Rattle.std.specs.Prelude.{◌≡◌, refl, Bool, ◌⊎◌, ℕ, zero, suc, ◌+◌, ◌*◌, ◌≤◌, eqb, length}
use Rattle.std.proofs.Common.{◌∙◌, inl, inr, arith, length-append, eqb-true}
use Rattle.std.proofs.Math.Path.{ap}
use mathlib.Core.List.{List, [], ◌∷◌, ◌++◌, append_assoc}
use Rattle.std.proofs.lemmas.Bool.{eqb-false}
use Rattle.rules.specs.Choice.{pick, by, chosen}
use Rattle.hex_digits.specs.Hex.{in_hex}
use Rattle.parsing.specs.declared.Status.TheVariants as Status
use Rattle.lines.specs.Lines.{lines_of, lines_first}
use Rattle.text.specs.Text.{status_text}
use Rattle.showing.specs.declared.Reply.TheVariants as Reply
use Rattle.frames.specs.Frames.{Machine}
use Rattle.sheets.specs.Sheet.{line_text, dropped_text, length_line, length_dropped}
use Rattle.mending.specs.Judged.{judged_line}
use Rattle.mend_theorems.specs.Mended.{onward, verdicts, kept_by, dropped_by, kept_text, notices_text}
use Rattle.mend_theorems.specs.Verdicts.{keeps}
use Rattle.mend_theorems.specs.Written.{kept_of, dropped_of}

-- ---- the kept lines as an input
-- they are its lines
pub lines_kept : (ls : List (List ℕ)) (m : Machine) → lines_of (kept_text (kept_of m ls)) ≡ kept_of m ls
unfolding verdicts kept_by kept_text line_text lines_of
lines_kept [] m = refl
lines_kept (l ∷ ls) m =
    let m' = onward m l in
    chosen (λ (ks : List (List ℕ)). lines_of (kept_text ks) ≡ ks) (eqb (judged_line m l).1 0) _ _
    (λ y.
    ap lines_of (append_assoc l (10 ∷ []) (kept_text (kept_of m' ls))) ∙ lines_first l (kept_text (kept_of m' ls)) (keeps m l (eqb-true _ _ y)).unbroken
    ∙ ap (λ (ks : List (List ℕ)). l ∷ ks) (lines_kept ls m'))
    (λ n. lines_kept ls m')

-- ---- all of them are accepted
-- n times a000
unfoldable pub acceptances : ℕ → List ℕ
acceptances zero = []
acceptances (suc n) = status_text Status.Accepted ++ acceptances n

-- ---- each line in its place
-- the machine after lines
unfoldable pub reached : Machine → List (List ℕ) → Machine
reached m [] = m
reached m (l ∷ ls) = reached (onward m l) ls

pub verdicts_two : (ls ms : List (List ℕ)) (m : Machine) → verdicts m (ls ++ ms) ≡ verdicts m ls ++ verdicts (reached m ls) ms
unfolding verdicts reached
verdicts_two [] ms m = refl
verdicts_two (l ∷ ls) ms m = ap (λ (vs : List ℕ). (judged_line m l).1 ∷ vs) (verdicts_two ls ms (onward m l))

-- a0 and a status
unfoldable pub answer_text : ℕ → List ℕ
answer_text v = in_hex 2 0xa0 ++ (in_hex 2 v ++ 10 ∷ [])

-- ---- every line is kept or dropped, once, in order
-- the statuses of lines from number n on and the lines; those that are kept, whose status is 0; and of those that are dropped the numbers and statuses
pub data Sorted : ℕ → List ℕ → List (List ℕ) → List (List ℕ) → List (ℕ × ℕ) → Type 0 where
  none : {n : ℕ} → Sorted n [] [] [] []
  keep : {n v : ℕ} {vs : List ℕ} {l : List ℕ} {ls ks : List (List ℕ)} {ds : List (ℕ × ℕ)} → v ≡ 0 → Sorted (n + 1) vs ls ks ds → Sorted n (v ∷ vs) (l ∷ ls) (l ∷ ks) ds
  leave : {n v : ℕ} {vs : List ℕ} {l : List ℕ} {ls ks : List (List ℕ)} {ds : List (ℕ × ℕ)} → (v ≡ 0 → ⊥) → Sorted (n + 1) vs ls ks ds → Sorted n (v ∷ vs) (l ∷ ls) ks ((n, v) ∷ ds)

pub sorted : (ls : List (List ℕ)) (m : Machine) (n : ℕ) → Sorted n (verdicts m ls) ls (kept_of m ls) (dropped_of m n ls)
unfolding verdicts kept_by dropped_by pick
sorted [] m n = none
sorted (l ∷ ls) m n =
    let m' = onward m l in
    let v = (judged_line m l).1 in
    let ks = kept_of m' ls in
    let ds = dropped_of m' (n + 1) ls in
    by (λ (b : Bool). eqb v 0 ≡ b → Sorted n (v ∷ verdicts m' ls) (l ∷ ls) (pick b (l ∷ ks) ks) (pick b ds ((n, v) ∷ ds))) (eqb v 0)
    (λ y e. keep (eqb-true v 0 e) (sorted ls m' (n + 1))) (λ d e. leave (eqb-false v 0 e) (sorted ls m' (n + 1))) refl

pub kept_fewer : (ls : List (List ℕ)) (m : Machine) → length (kept_of m ls) ≤ length ls
unfolding verdicts kept_by
kept_fewer [] m = omega arith
kept_fewer (l ∷ ls) m =
    let i = kept_fewer ls (onward m l) in
    chosen (λ (ks : List (List ℕ)). length ks ≤ suc (length ls)) (eqb (judged_line m l).1 0) _ _ (λ y. omega arith) (λ n. omega arith)

-- ---- `a08f` exactly for more than 512 lines
pub kept_long : (ls : List (List ℕ)) (m : Machine) → (length (kept_text (kept_of m ls)) ≡ 0) ⊎ (11 ≤ length (kept_text (kept_of m ls)))
unfolding verdicts kept_by kept_text
kept_long [] m = inl refl
kept_long (l ∷ ls) m =
    let m' = onward m l in
    chosen (λ (ks : List (List ℕ)). (length (kept_text ks) ≡ 0) ⊎ (11 ≤ length (kept_text ks))) (eqb (judged_line m l).1 0) _ _
    (λ y. inr (omega (arith, length-append (line_text l) (kept_text (kept_of m' ls)), length_line l, (keeps m l (eqb-true _ _ y)).low)))
    (λ n. kept_long ls m')

pub length_notices : (ds : List (ℕ × ℕ)) → length (notices_text ds) ≡ 9 * length ds
unfolding notices_text
length_notices [] = omega arith
length_notices (d ∷ ds) = omega (arith, length-append (dropped_text d.0 d.1) (notices_text ds), length_dropped d.0 d.1, length_notices ds)
